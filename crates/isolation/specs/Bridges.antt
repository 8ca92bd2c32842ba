-- The claim of what two runs write, and of two callers that fold the dispatcher's methods.
use Rattle.std.specs.Prelude.{◌≡◌, ◌↔◌, List, ◌∷◌, ◌++◌, map, ℕ, ◌+◌, ◌*◌, length, get_or, Ok}
use Rattle.rules.specs.Answers.{Answer}
use Rattle.words.specs.Words.{Bytes}
use Rattle.format.specs.Roster.{Roster, roster_of}
use Rattle.trace.specs.Limits.{reply_size}
use Rattle.trace.specs.Config.{Config, start_of}
use Rattle.trace.specs.Inputs.{inputs_of}
use Rattle.trace.specs.Run.{answer_of, buffer_of}
use Rattle.dispatch.specs.State.{view}
use Rattle.safety.specs.History.{Event, input_of, after}
use Rattle.safety.specs.Host.{Host, host, call}
use Rattle.isolation.specs.Sharing.{Above, Agree, Agreeing}
use Rattle.isolation.specs.Isolated.{Excepted, Isolated}
use Rattle.isolation.specs.Unseen.{Turn, firsts, seconds, Unnoticed}

-- two buffers after runs of the events es: at each event the task byte of one names a task above p exactly if that of the other names
-- the same, and the answer bytes are equal unless the event is excepted. Nothing is said of the report bytes (2026-10): who runs before a
-- task above p takes over may differ
pub record WroteAlike (p : ℕ) (r s : Roster) (one two : List ℕ) (es : List Event) : Type 0 where
  pub task : (before behind : List Event) (e : Event) → es ≡ before ++ (e ∷ behind) → (t : ℕ) → Above p r t →
      (get_or one (reply_size * length before + 1) 0 ≡ t) ↔ (get_or two (reply_size * length before + 1) 0 ≡ t)
  pub answer : (before behind : List Event) (e : Event) → es ≡ before ++ (e ∷ behind) → (Excepted p r s (after r before) e → ⊥) →
      get_or one (reply_size * length before) 0 ≡ get_or two (reply_size * length before) 0

-- two runs that are done, under the same bytes of events with no Set among them, each into a lent buffer of its own
abbrev pub RunsWriteAlike : Type 0
RunsWriteAlike =
    (p : ℕ) (a b ev x y : List ℕ) (es : List Event) → Bytes a → Bytes b → Agree p (roster_of a) (roster_of b) →
    answer_of a ev (length x) ≡ Ok tt → answer_of b ev (length y) ≡ Ok tt → inputs_of ev ≡ map input_of es →
    WroteAlike p (roster_of a) (roster_of b) (buffer_of a ev x) (buffer_of b ev y) es

-- what a caller of the methods holds: what its State means, and the script positions; and what its next call answers
abbrev pub held_by : Host → Config
held_by h = record { model = view h.state; positions = h.positions }

abbrev pub host_answer : Roster → List Event → Event → Answer
host_answer r es e = (call r (host r es) e).answer

-- two callers that start fresh and make the same calls; or the calls that turns give them, those of one alone not being seen
abbrev pub HostsIsolated : Type 0
HostsIsolated =
    (p : ℕ) (a b : List ℕ) → Agreeing p a b → (es : List Event) →
    Isolated p (roster_of a) (roster_of b) (held_by (host (roster_of a) es)) (held_by (host (roster_of b) es))
    (host_answer (roster_of a) es)
    (host_answer (roster_of b) es)

abbrev pub HostsUnseen : Type 0
HostsUnseen =
    (p : ℕ) (a b : List ℕ) → Agreeing p a b → (ts : List Turn) →
    Unnoticed p (roster_of a) (roster_of b) (start_of (roster_of a)) (start_of (roster_of b)) ts →
    Isolated p (roster_of a) (roster_of b) (held_by (host (roster_of a) (firsts ts))) (held_by (host (roster_of b) (seconds ts)))
    (host_answer (roster_of a) (firsts ts)) (host_answer (roster_of b) (seconds ts))
