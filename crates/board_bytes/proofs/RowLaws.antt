-- The rows of a board that are written are the rows that are read: asked after it was filled, it names what the rows of the state name.
use mathlib.Core.Path.{◌≡◌, refl, ap, ◌∙◌}
use mathlib.Core.List.{List, [], ◌∷◌, ◌++◌, append_assoc, flat_map}
use Prim.Native.Nat.{ℕ, zero, suc, ◌+◌, ◌*◌, ◌<◌}
use native.Mathlib.Nat.{not-suc-le-zero, le_of_suc-le-suc}
use native.Mathlib.Omega.{arith}
use borrow.Author.Tests.{eq-eqb}
use lib.Dec.{eqb}
use lib.ListN.{length, get_or, drop, length-append, length-drop}
use Rattle.rules.proofs.Choices.{cond-true}
use Rattle.dispatch.specs.State.{view}
use Rattle.board.specs.Rows.{no_row}
use Rattle.board.specs.Scan.{next_of}
use Rattle.board.specs.Fill.{rows_of}
use Rattle.rules.specs.Kinds.{kind_from, kind_number}
use Rattle.rules.specs.declared.PlaceKind.{PlaceKind}
use Rattle.rules.specs.declared.PlaceKind.TheVariants.{Running, Ready, Delayed, Suspended, Ended}
use Rattle.board.specs.declared.Row.{Row}
use Rattle.board.proofs.FillLaws.{rows-length}
use Rattle.cells.specs.Decode.{state_of_bytes}
use Rattle.board_bytes.specs.Boards.{row_size, row_from, rows_from, row_count, row_bytes, fill_answer, filled_bytes}
use Rattle.board_bytes.specs.Boards.{packed_told, next_number}
use Rattle.words.proofs.TableLaws.{tabulate-of}
use Rattle.cells.proofs.BackLaws.{byte-behind}
use Rattle.board_bytes.proofs.BoardLaws.{row-length, rows-size}

kind-back : (k : PlaceKind) → kind_from (kind_number k) ≡ k
kind-back Running = refl
kind-back Ready = refl
kind-back Delayed = refl
kind-back Suspended = refl
kind-back Ended = refl

row_here : (p r : List ℕ) (n : ℕ) → length p ≡ n → (x : Row) → row_from (p ++ (row_bytes x ++ r)) n ≡ x
unfolding row_from row_bytes
row_here p r n e x =
    let q = row_bytes x ++ r in
    rw (byte-behind p q n e 0 n (omega arith), byte-behind p q n e 1 (n + 1) refl, byte-behind p q n e 2 (n + 2) refl, kind-back x.kind)

rows-here : (rs : List Row) (p r : List ℕ) (n i : ℕ) → length p ≡ n → i < length rs →
    row_from (p ++ (flat_map row_bytes rs ++ r)) (n + row_size * i) ≡ get_or rs i no_row
unfolding flat_map
rows-here [] p r n i e h = absurd (not-suc-le-zero h)
rows-here (x ∷ rs) p r n zero e h =
    let start : n + row_size * 0 ≡ n = omega arith in
    let rest = flat_map row_bytes rs in
    rw (start, append_assoc (row_bytes x) rest r) (row_here p (rest ++ r) n e x)
rows-here (x ∷ rs) p r n (suc i) e h =
    let next : n + row_size * suc i ≡ n + row_size + row_size * i = omega arith in
    let rest = flat_map row_bytes rs in
    let size : length (p ++ row_bytes x) ≡ n + row_size = length-append p (row_bytes x) ∙ omega (arith, row-length x) in
    rw (next, append_assoc (row_bytes x) rest r, ← append_assoc p (row_bytes x) (rest ++ r))
    (rows-here rs (p ++ row_bytes x) r (n + row_size) i size (le_of_suc-le-suc h))

-- the bytes of rows, whatever is behind them, stand for the rows
pub rows_back : (rs : List Row) (r : List ℕ) (n : ℕ) → length rs ≡ n → rows_from (flat_map row_bytes rs ++ r) n ≡ rs
unfolding rows_from
rows_back rs r n e =
    tabulate-of rs n (λ i. row_from (flat_map row_bytes rs ++ r) (row_size * i)) no_row e
    (λ i h. let at : row_size * i ≡ 0 + row_size * i = omega arith in
    ap (row_from (flat_map row_bytes rs ++ r)) at ∙ rows-here rs [] r 0 i refl (omega arith))

-- a board with a row for each task, just filled
module _ (b board : List ℕ) (done : fill_answer b board ≡ 0) (all : row_count board ≡ length (view (state_of_bytes b)).tasks) where
  abbrev count : ℕ
  count = length (view (state_of_bytes b)).tasks

  abbrev text : List ℕ
  text = flat_map row_bytes (rows_of (view (state_of_bytes b)))

  own-rows : length (rows_of (view (state_of_bytes b))) ≡ count
  own-rows = rows-length (view (state_of_bytes b)) count

  written : filled_bytes b board ≡ text ++ drop (row_size * count) board
  unfolding filled_bytes
  written = cond-true (eqb (fill_answer b board) 0) (text ++ drop (row_size * count) board) board (eq-eqb _ 0 done)

  same_count : row_count (text ++ drop (row_size * count) board) ≡ count
  same_count =
      let size = length-append text (drop (row_size * count) board) in
      omega (arith, size, rows-size (rows_of (view (state_of_bytes b))), own-rows, length-drop (row_size * count) board)

  pub filled_next : next_number (filled_bytes b board) ≡ packed_told (next_of (rows_of (view (state_of_bytes b))))
  unfolding next_number
  filled_next =
      rw (written, same_count, rows_back (rows_of (view (state_of_bytes b))) (drop (row_size * count) board) count own-rows)
