-- A page that lines are put on: a lent buffer, and how many bytes of it are written.
use Rattle.std.specs.Prelude.{◌≡◌, ℕ, ◌+◌, ◌≤◌, List, length}
use Rattle.std.proofs.lemmas.List.Edits.{sets}
use Rattle.lines.specs.declared.text.Page.{Page}

-- so many bytes can be put on it
abbrev pub HasRoom : Page → ℕ → Type 0
HasRoom page n = page.size + n ≤ length page.out.now

-- a text put behind what stands there: the bytes afterwards, where the text ends, and that the buffer is the same one
pub record Added (before : Page) (text : List ℕ) (after : Page) : Type 0 where
  pub bytes : after.out.now ≡ sets before.out.now before.size text
  pub end : after.size ≡ before.size + length text
  pub room : length after.out.now ≡ length before.out.now
  pub fits : after.size ≤ length before.out.now
  pub same : after.out.ghost_name ≡ before.out.ghost_name
