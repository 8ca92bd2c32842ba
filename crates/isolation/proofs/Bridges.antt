-- The claim of what two runs write, and of two callers of the methods: the proofs.
use mathlib.Core.Path.{◌≡◌, ap, ◌∙◌, sym, subst}
use mathlib.Core.List.{List, [], ◌∷◌, ◌++◌}
use Prim.Native.Nat.{ℕ, ◌<◌}
use native.Mathlib.Omega.{arith}
use lib.ListN.{length}
use Rattle.std.specs.Prelude.{None, Option, Some, ℕ}
use Rattle.rules.specs.Answers.{number_of}
use Rattle.rules.specs.Model.{Model}
use Rattle.rules.specs.Answers.{Answer}
use Rattle.format.specs.Roster.{Roster, roster_of}
use Rattle.trace.specs.Limits.{nobody_byte}
use Rattle.trace.specs.Config.{Config}
use Rattle.trace.specs.Run.{running_byte}
use Rattle.safety.specs.History.{Event, after}
use Rattle.safety.specs.Host.{host, Hosted}
use Rattle.safety.proofs.RunWrites.{ran-passes, answer-written, task-written}
use Rattle.safety.proofs.Hosting.{bridge}
use Rattle.isolation.specs.Sharing.{Above, Agreeing}
use Rattle.isolation.specs.Isolated.{answer, Isolated}
use Rattle.isolation.specs.Unseen.{firsts, seconds}
use Rattle.isolation.specs.Bridges.{RunsWriteAlike, held_by, host_answer, HostsIsolated, HostsUnseen}
use Rattle.isolation.proofs.Sorting.{listed_above}
use Rattle.isolation.proofs.Theorem.{first-orderly, unseen-isolated, isolated}

-- the byte of a runner names the task t exactly if that task runs
byte-named : (w : Option ℕ) (t : ℕ) → t < nobody_byte → running_byte w ≡ t → w ≡ Some t
unfolding running_byte
byte-named None t h e = absurd (omega (arith, h, e))
byte-named (Some u) t h e = ap Some e

named-byte : (w : Option ℕ) (t : ℕ) → w ≡ Some t → running_byte w ≡ t
unfolding running_byte
named-byte w t e = ap running_byte e

pub runs-write-alike : RunsWriteAlike
runs-write-alike p a b ev x y es ha hb agree ra rb is = record {
  task = λ before behind e q t above.
      let one = task-written a ev x es ra is before behind e q in
      let two = task-written b ev y es rb is before behind e q in
      let runs = (isolated p a b g (before ++ (e ∷ []))).same.runs t above in (
        λ i. two ∙ named-byte _ t (runs.0 (byte-named _ t (small t above) (sym one ∙ i))),
        λ i. one ∙ named-byte _ t (runs.1 (byte-named _ t (small t above) (sym two ∙ i))),
      );
  answer = λ before behind e q n.
      answer-written a ev x es ra is before behind e q ∙ ap number_of ((isolated p a b g before).answers e n) ∙
      sym (answer-written b ev y es rb is before behind e q);
}
  where
    g : Agreeing p a b
    g = record { bytes = (ha, hb); pass = (ran-passes a ev (length x) ra, ran-passes b ev (length y) rb); agree = agree }

    small : (t : ℕ) → Above p (roster_of a) t → t < nobody_byte
    small t above = omega (arith, listed_above p (roster_of a) t above.base, (first-orderly p a b g).start.count)

-- a caller holds the configuration of the claim
held-is : (r : Roster) (es : List Event) → Hosted r es → after r es ≡ held_by (host r es)
held-is r es h =
    sym (ap (λ (m : Model). record { model = m; positions = (host r es).positions }) h.meaning ∙
    ap (λ (ps : List ℕ). record { model = (after r es).model; positions = ps }) h.positions)

-- the claim is of configurations and answers, however they are come by
carried : (p : ℕ) (r s : Roster) (c d x y : Config) (f g u v : Event → Answer) → c ≡ x → d ≡ y → ((e : Event) → f e ≡ u e) →
    ((e : Event) → g e ≡ v e) → Isolated p r s c d f g → Isolated p r s x y u v
carried p r s c d x y f g u v i j k l h =
    subst (λ (z : Config). Isolated p r s z y u v) i (subst (λ (z : Config). Isolated p r s c z u v) j (record {
      same = h.same;
      apart = h.apart;
      answers = λ e n. sym (k e) ∙ h.answers e n ∙ l e;
    }))

-- two callers after any events, from the claim of those
hosts-after : (p : ℕ) (a b : List ℕ) → Agreeing p a b → (es fs : List Event) →
    Isolated p (roster_of a) (roster_of b) (after (roster_of a) es) (after (roster_of b) fs) (answer (roster_of a) es)
    (answer (roster_of b) fs) →
    Isolated p (roster_of a) (roster_of b) (held_by (host (roster_of a) es)) (held_by (host (roster_of b) fs))
    (host_answer (roster_of a) es)
    (host_answer (roster_of b) fs)
hosts-after p a b g es fs h =
    let one = bridge a g.bytes.0 g.pass.0 es in
    let two = bridge b g.bytes.1 g.pass.1 fs in
    carried p (roster_of a) (roster_of b) _ _ _ _ _ _ (host_answer (roster_of a) es) (host_answer (roster_of b) fs)
    (held-is (roster_of a) es one)
    (held-is (roster_of b) fs two) (λ e. sym (one.answer e)) (λ e. sym (two.answer e)) h

pub hosts-isolated : HostsIsolated
hosts-isolated p a b g es = hosts-after p a b g es es (isolated p a b g es)

pub hosts-unseen : HostsUnseen
hosts-unseen p a b g ts n = hosts-after p a b g (firsts ts) (seconds ts) (unseen-isolated p a b g ts n)
