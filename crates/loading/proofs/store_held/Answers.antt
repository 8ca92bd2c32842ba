-- `loading::store_held` meets its contract.
use Rattle.std.proofs.Common.{◌≡◌, [], ◌<◌, ◌-◌, ◌*◌, ◌∙◌, refl, ap, sym, subst, arith, ℕ, length, map, take, replicate, length-take, length-drop}
use Rattle.std.proofs.lemmas.List.{length-map, get_or-map}
use Rattle.std.proofs.lemmas.Nat.{row_fits}
use mathlib.Core.List.{flat_map}
use Rattle.rules.specs.Limits.{task_limit}
use Rattle.rules.specs.Model.{blank}
use Rattle.memory.specs.Rows.{row_for, held_width}
use Rattle.loading.specs.Loading.{padded, holding}
use Rattle.loading.proofs.RowLaws.{part_length}
use Rattle.loading.proofs.StoreLaws.{rows_none, rows-more, rows-rest}
use Rattle.loading.proofs.store_held.Goals as goal

pub loop-t-init : goal.loop-t-init
loop-t-init c = rows_none held_width 0 c.args.held.now (map holding c.args.memory.now.tasks) refl

pub loop-t-preserved : goal.loop-t-preserved
loop-t-preserved c =
    let l = c.loop-t in
    let ks = c.args.memory.now.tasks in
    let n = c.task_count-listed.ensures in
    let h : l.t < task_limit = omega (arith, c.loop-t-test.true, n.value, n.fits) in
    let size = part_length held_width task_limit l.t l.held h (omega (arith, l.auto.held, c.requires.rows)) in
    rows-more held_width l.t l.held (map holding ks) l.invariant _ (omega (arith, c.loop-t-test.true, n.value, length-map ks holding))
    (omega (arith, row_fits l.t held_width task_limit held_width h (omega arith), l.auto.held, c.requires.rows)) (c.write_held.auto.row ∙ size)
    (c.write_held.ensures ∙ ap (row_for held_width) (sym (get_or-map holding ks l.t blank [] (omega (arith, c.loop-t-test.true, n.value)))))

pub returns : goal.returns
unfolding padded
returns c =
    let l = c.loop-t in
    let ks = c.args.memory.now.tasks in
    let n = c.task_count-listed.ensures in
    let same : l.t ≡ c.task_count-listed.result = omega (arith, c.loop-t-test.false, l.auto.t-end) in
    let room : (length l.held) - c.task_count-listed.result * held_width ≡ (task_limit - c.task_count-listed.result) * held_width =
    omega (arith, l.auto.held, c.requires.rows, n.value, n.fits) in
    let zeros : c.fill.new.self ≡ replicate ((task_limit - c.task_count-listed.result) * held_width) 0 =
    c.fill.ensures.after (λ y e. e) ∙
    ap (λ (k : ℕ). replicate k 0) (simp (length-take, length-drop) (omega (arith, room))) in
    rows-rest held_width task_limit c.task_count-listed.result l.held c.fill.new.self (map holding ks) (omega arith)
    (n.value ∙ sym (length-map ks holding))
    (subst (λ (i : ℕ). take (i * held_width) l.held ≡ flat_map (row_for held_width) (take i (map holding ks))) same l.invariant) zeros
