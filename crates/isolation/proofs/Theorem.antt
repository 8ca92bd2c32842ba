-- The theorem: what the tasks above p do is the same in the runs of two rosters that agree above p, unseen events aside.
use mathlib.Core.Path.{◌≡◌, refl, ap, subst}
use mathlib.Core.List.{List, [], ◌∷◌, map}
use Prim.Native.Nat.{ℕ}
use Rattle.format.specs.Roster.{Roster, roster_of}
use Rattle.format.specs.Check.{check_of}
use Rattle.format.proofs.TestLaws.{passed_is}
use Rattle.format.proofs.PassedLaws.{Orderly, orderly}
use Rattle.trace.specs.Config.{Config, start_of}
use Rattle.safety.specs.History.{Event, after}
use Rattle.isolation.specs.Sharing.{Agreeing}
use Rattle.isolation.specs.Isolated.{answer, Isolated, IsolationClaim}
use Rattle.isolation.specs.Unseen.{both, firsts, seconds, next, Unnoticed, UnseenClaim}
use Rattle.isolation.proofs.Pairs.{pairs, pair-start, pair-isolated}

-- a roster that passes, by its bytes and the check's own answer
pub first-orderly : (p : ℕ) (a b : List ℕ) → Agreeing p a b → Orderly (roster_of a)
first-orderly p a b g = orderly a (passed_is (check_of a) g.pass.0) g.bytes.0

second-orderly : (p : ℕ) (a b : List ℕ) → Agreeing p a b → Orderly (roster_of b)
second-orderly p a b g = orderly b (passed_is (check_of b) g.pass.1) g.bytes.1

-- every list of turns
pub unseen-isolated : UnseenClaim
unseen-isolated p a b g ts n =
    let k = first-orderly p a b g in
    let l = second-orderly p a b g in
    pair-isolated p (roster_of a) (roster_of b) k l g.agree _ _
    (pairs p (roster_of a) (roster_of b) k l g.agree ts (start_of (roster_of a)) (start_of (roster_of b))
    (pair-start p (roster_of a) (roster_of b) k l g.agree) n)

-- the same events in both are turns of both
all_both : (es : List Event) → (firsts (map both es) ≡ es) × (seconds (map both es) ≡ es)
unfolding firsts seconds
all_both [] = (refl, refl)
all_both (e ∷ es) = let f = all_both es in (ap (λ (l : List Event). e ∷ l) f.0, ap (λ (l : List Event). e ∷ l) f.1)

all-unnoticed : (p : ℕ) (r s : Roster) (c d : Config) (es : List Event) → Unnoticed p r s c d (map both es)
unfolding Unnoticed
all-unnoticed p r s c d [] = tt
all-unnoticed p r s c d (e ∷ es) = all-unnoticed p r s (next r c e) (next s d e) es

-- the theorem
pub isolated : IsolationClaim
isolated p a b g es =
    let r = roster_of a in
    let s = roster_of b in
    let v = unseen-isolated p a b g (map both es) (all-unnoticed p r s (start_of r) (start_of s) es) in
    subst (λ (l : List Event). Isolated p r s (after r l) (after s es) (answer r l) (answer s es)) (all_both es).0
    (subst (λ (l : List Event). Isolated p r s (after r (firsts (map both es))) (after s l) (answer r (firsts (map both es))) (answer s l))
    (all_both es).1 v)
