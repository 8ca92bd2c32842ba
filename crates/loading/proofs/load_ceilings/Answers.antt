-- `loading::load_ceilings` meets its contract.
use Rattle.std.proofs.Common.{refl, ap, sym, subst, ℕ, List, ◌+◌, arith}
use Rattle.rules.specs.Model.{Model}
use Rattle.loading.specs.Loading.{Each, CeilingFrom}
use Rattle.loading.proofs.LoadLaws.{each-none, each-more, ceilings-rest}
use Rattle.loading.proofs.load_ceilings.Goals as goal

pub loop-o-init : goal.loop-o-init
loop-o-init g c = record { rest = refl; each = each-none _ 0 _ c.requires.none }

pub add_object-requires : goal.add_object-requires
add_object-requires g c = omega (arith, c.loop-o.invariant.each.count, c.requires.room)

pub loop-o-preserved : goal.loop-o-preserved
loop-o-preserved g c =
    let l = c.loop-o in
    let new = c.add_object.ensures in
    record {
      rest = ceilings-rest c.args.memory.now l.memory _ _ l.invariant.rest new;
      each =
          subst (λ (cs : List ℕ). Each (CeilingFrom (goal.C-post g c.args.ceiling)) 0 (l.o + 1) cs)
          (sym (ap (λ (m : Model). m.ceilings) new))
          (each-more _ 0 l.o l.memory.ceilings _ l.invariant.each (c.ceiling.result, c.ceiling.ensures, refl));
    }
