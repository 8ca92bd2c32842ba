-- `soundness::one_place` meets its contract.
use Rattle.std.proofs.Common.{◌≡◌, refl, ◌∙◌, sym, eqb, arith, rules}
use Rattle.rules.specs.Sound.{is_running, is_ready}
use Rattle.soundness.proofs.CountLaws.{counted-all}
use Rattle.soundness.proofs.ClauseLaws.{sizes-are, place-one}
use Rattle.soundness.proofs.TestedLaws.{fails-first, holds-first}
use Rattle.soundness.proofs.one_place.Goals as goal

pub bounds-counts-t : goal.bounds-counts-t
bounds-counts-t c = omega (arith, sizes-are c.args.memory.now c.requires.sizes)

pub returns-then-eq : goal.returns-then-eq
unfolding is_running is_ready
returns-then-eq c =
    let runs : c.eq-2.result ≡ eqb (is_running c.place-place.result) 1 = search rules in
    let ready : c.from.result ≡ is_ready c.place-place.result = search rules in
    let n = counted-all c.args.t (omega (arith, sizes-are c.args.memory.now c.requires.sizes, c.requires.there)) c.requires.counted in
    let named = c.eq.ensures ∙ rw c.running.ensures in
    sym (place-one c.args.memory.now c.args.t _ _ _ _ _ c.place-place.ensures named runs n ready ∙ holds-first _ _ c.if-eq.true)

pub returns-else-eq : goal.returns-else-eq
unfolding is_running
returns-else-eq c =
    let runs : c.eq-2.result ≡ eqb (is_running c.place-place.result) 1 = search rules in
    let named = c.eq.ensures ∙ rw c.running.ensures in
    c.if-eq.false ∙
    sym (place-one c.args.memory.now c.args.t _ _ _ _ _ c.place-place.ensures named runs refl refl ∙ fails-first _ _ c.if-eq.false)
