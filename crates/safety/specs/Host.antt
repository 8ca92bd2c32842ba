-- A caller of the dispatcher's own methods: it holds a State and each task's position, and folds the methods over the same list.
use Rattle.std.specs.Prelude.{◌≡◌, true, cond, List, [], ◌∷◌, ℕ, length, get_or, set, replicate, None, Option, Some, Err, Ok}
use Rattle.rules.specs.declared.Report.{Report}
use Rattle.rules.specs.declared.Report.TheVariants.{Unchanged}
use Rattle.rules.specs.Answers.{Answer}
use Rattle.rules.specs.declared.Refusal.TheVariants.{Unsound}
use Rattle.words.specs.Words.{Bytes}
use Rattle.format.specs.Answers.{passed}
use Rattle.format.specs.Roster.{Roster, roster_of, setup_of}
use Rattle.format.specs.Check.{check_of}
use Rattle.format.specs.declared.Step.{Step}
use Rattle.format.specs.declared.Step.TheVariants.{Enter, Leave, Delay, Work, Suspend, Release, Set, Again, Finish}
use Rattle.trace.specs.Config.{next_step, position_after, is_done, happen}
use Rattle.dispatch.specs.declared.State.{State}
use Rattle.dispatch.specs.declared.Stepped.{Stepped}
use Rattle.dispatch.specs.State.{view}
use Rattle.dispatch.specs.Methods.{enter_of, leave_of, delay_of, suspend_of, release_of, clock_of, set_of, work_of, finish_of, fresh_of}
use Rattle.safety.specs.History.{Event, clock, release, step, input_of, after}

pub record Host : Type 0 where
  pub state : State
  pub positions : List ℕ

pub record Reply : Type 0 where
  pub answer : Answer
  pub report : Report
  pub host : Host

-- `State::fresh`, with every script at its start
unfoldable pub opening : Roster → Host
opening r = record { state = (fresh_of (setup_of r)).state; positions = replicate (length r.bases) 0 }

-- the method that a step of a script calls; Again calls none
unfoldable pub called : State → Step → Stepped
called s (Enter o) = enter_of s o
called s (Leave o) = leave_of s o
called s (Delay d) = delay_of s d
called s Work = work_of s
called s Suspend = suspend_of s
called s (Release t) = release_of s t
called s (Set t p) = set_of s t p
called s Again = record { answer = Ok tt; report = Unchanged; state = s }
called s Finish = finish_of s

abbrev pub kept : Host → Stepped → Reply
kept h x = record { answer = x.answer; report = x.report; host = record { state = x.state; positions = h.positions } }

-- task t calls for its step, and its position becomes k if that is accepted
abbrev pub moved_to : Host → ℕ → ℕ → Stepped → Reply
moved_to h t k x =
    record {
      answer = x.answer;
      report = x.report;
      host = record { state = x.state; positions = cond (is_done x.answer) (set h.positions t k) h.positions };
    }

-- a step of the running task; with nobody running, Work, which answers 5
unfoldable pub step_on : Roster → Host → Option ℕ → Reply
step_on r h None = kept h (work_of h.state)
step_on r h (Some t) =
    moved_to h t (position_after (get_or h.positions t 0) (next_step r t (get_or h.positions t 0)))
    (called h.state (next_step r t (get_or h.positions t 0)))

unfoldable pub call : Roster → Host → Event → Reply
call r h (clock x) = kept h (clock_of h.state x)
call r h (release t) = kept h (release_of h.state t)
call r h step = step_on r h h.state.running

unfoldable pub host_from : Roster → Host → List Event → Host
host_from r h [] = h
host_from r h (e ∷ es) = host_from r (call r h e).host es

abbrev pub host : Roster → List Event → Host
host r es = host_from r (opening r) es

-- after every list: the State means the claim's Model, and the next call answers and reports as the claim's event does; it never answers 10
pub record Hosted (r : Roster) (es : List Event) : Type 0 where
  pub meaning : view (host r es).state ≡ (after r es).model
  pub positions : (host r es).positions ≡ (after r es).positions
  pub answer : (e : Event) → (call r (host r es) e).answer ≡ (happen r (after r es) (input_of e)).answer
  pub report : (e : Event) → (call r (host r es) e).report ≡ (happen r (after r es) (input_of e)).report
  pub never : (e : Event) → (call r (host r es) e).answer ≡ (Err Unsound) → ⊥

abbrev pub Bridge : Type 0
Bridge = (s : List ℕ) → Bytes s → passed (check_of s) ≡ true → (es : List Event) → Hosted (roster_of s) es
