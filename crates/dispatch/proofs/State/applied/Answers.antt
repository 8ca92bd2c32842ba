-- `dispatch::State::applied` meets its contract.
use Rattle.std.proofs.Common.{◌∙◌, sym}
use Rattle.dispatch.proofs.MethodLaws.{view-sound, unsound-by, none-loaded, some-loaded, applied-by}
use Rattle.dispatch.proofs.State.applied.Goals as goal

pub returns-in_default : goal.returns-in_default
returns-in_default c =
    let s = c.args.self in
    c.unsound.ensures ∙ unsound-by s c.args.event (none-loaded s (sym c.in_default.is ∙ c.loaded.ensures))

pub apply-ruling-requires : goal.apply-ruling-requires
apply-ruling-requires c =
    let s = c.args.self in
    let loaded = some-loaded s c.in-Some.memory (sym c.in-Some.is ∙ c.loaded.ensures) in
    rw loaded.1 (view-sound s loaded.0)

pub returns : goal.returns
returns c =
    let s = c.args.self in
    let loaded = some-loaded s c.in-Some.memory (sym c.in-Some.is ∙ c.loaded.ensures) in
    rw (c.after.ensures, c.answer-answer.ensures, c.report.ensures)
    (applied-by s c.args.event c.in-Some.memory _ c.apply-ruling.result loaded.0 loaded.1 c.apply-ruling.ensures.did)
