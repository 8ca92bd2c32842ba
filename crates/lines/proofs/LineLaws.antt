-- Laws of lines: texts put on a page one behind the other, decimal numbers, and the room that lines need.
use mathlib.Core.Path.{◌≡◌, refl, ap, sym, ◌∙◌}
use mathlib.Core.Bool.{Bool, true, false, cond}
use mathlib.Core.List.{List, [], ◌∷◌, ◌++◌}
use Prim.Native.Nat.{ℕ, suc, ◌+◌, ◌-◌, ◌*◌, ◌/◌, ◌%◌, ◌^◌, ◌≤◌, ◌<◌}
use native.Mathlib.Nat.{add-zero}
use native.Mathlib.Omega.{arith}
use Rattle.std.proofs.Common.{Fits, w8}
use Rattle.std.specs.Simd.{first_chunks}
use Rattle.words.proofs.ListLaws.{chunk-item}
use borrow.Author.Tests.{lt-ltb, le-ltb, leb-true, leb-false, lt-leb, le-leb, eq-eqb, ne_eqb}
use lib.Dec.{eqb, leb}
use lib.ListN.{length, get_or, drop, length-append, length-drop}
use lib.Seq.{sets, drop-cons}
use Rattle.std.specs.Fmt as Std
use Rattle.std.proofs.lemmas.Fmt.{decimal_from_appends, decimal_digit, decimal_step, length-decimal-le, length-decimal-le_succ}
use Rattle.words.proofs.CopyLaws.{sets-append, sets-front}
use Rattle.format.proofs.TestLaws.{by-test}
use Rattle.rules.proofs.Choices.{split}
use Rattle.trace.specs.Limits.{reply_size, nobody_byte}
use Rattle.trace.specs.Answers.{RunAnswer}
use Rattle.lines.specs.Lines.{newline, space, dash, first_digit, digits_to, decimal, running_text, reply_line, reply_lines}
use Rattle.lines.specs.Lines.{has_place, place_text, lines_of, reply_room, other_room}
use Rattle.lines.specs.Lines.{room_for, lines_buffer, lines_size}
use Rattle.lines.specs.Page.{Added}
use Rattle.lines.specs.declared.text.Page.{Page}

module _ {page before after : Page} {s t : List ℕ} where
  -- a text behind a text
  pub added_then : Added page s before → Added before t after → Added page (s ++ t) after
  added_then p q =
      let b = page.out.now in
      let at = page.size in
      record {
        bytes =
            q.bytes ∙ (ap (λ (l : List ℕ). sets l before.size t) p.bytes ∙
            (ap (λ (k : ℕ). sets (sets b at s) k t) p.end ∙ sym (sets-append b at s t)));
        end = omega (arith, p.end, q.end, length-append s t);
        room = q.room ∙ p.room;
        fits = omega (arith, q.fits, p.room);
        same = q.same ∙ p.same;
      }

-- no text
pub added_none : (page : Page) → page.size ≤ length page.out.now → Added page [] page
added_none page h = record { bytes = refl; end = omega arith; room = refl; fits = h; same = refl }

-- a text by another name
pub added_as : {page after : Page} {s t : List ℕ} → t ≡ s → Added page s after → Added page t after
added_as e p = rw e p

-- the numbers are those that the library writes
decimal_is : (n : ℕ) → n < 2 ^ 64 → decimal n ≡ Std.decimal n
unfolding decimal digits_to
decimal_is n h =
    decimal_from_appends digits_to
    (record { one = λ k n h. rw (lt-ltb n 10 h); more = λ k n h. rw (le-ltb n 10 h) })
    (suc n) n h (omega (arith, length-decimal-le_succ n h))

pub decimal_one : (n : ℕ) → n < 10 → decimal n ≡ (first_digit + n) ∷ []
decimal_one n h = decimal_is n (omega arith) ∙ decimal_digit n h

pub decimal-more : (n : ℕ) → 10 ≤ n → n < 2 ^ 64 → decimal n ≡ decimal (n / 10) ++ ((first_digit + n % 10) ∷ [])
decimal-more n h g =
    let front = sym (decimal_is (n / 10) (omega arith)) in
    decimal_is n g ∙ (decimal_step n h g ∙ ap (λ (l : List ℕ). l ++ ((first_digit + n % 10) ∷ [])) front)

pub decimal_room : (n : ℕ) → 10 ≤ n → n < 2 ^ 64 → length (decimal n) ≡ length (decimal (n / 10)) + 1
decimal_room n h g = ap length (decimal-more n h g) ∙ length-append (decimal (n / 10)) ((first_digit + n % 10) ∷ [])

pub byte_short : (n : ℕ) → n < 256 → length (decimal n) ≤ 3
byte_short n h = omega (arith, ap length (decimal_is n (omega arith)), length-decimal-le 3 n (omega arith) (omega arith) (omega arith))

pub number_short : (n : ℕ) → n < 2 ^ 64 → length (decimal n) ≤ 20
number_short n h = omega (arith, ap length (decimal_is n h), length-decimal-le 20 n (omega arith) (omega arith) h)

-- the running task, and nobody
pub running-nobody : (r : ℕ) → r ≡ nobody_byte → running_text r ≡ dash ∷ []
unfolding running_text
running-nobody r e = ap (λ (b : Bool). cond b (dash ∷ []) (decimal r)) (eq-eqb r nobody_byte e)

pub running-task : (r : ℕ) → (r ≡ nobody_byte → ⊥) → running_text r ≡ decimal r
unfolding running_text
running-task r e = ap (λ (b : Bool). cond b (dash ∷ []) (decimal r)) (ne_eqb r nobody_byte e)

pub reply_length : (a r w : ℕ) →
    length (reply_line a r w) ≡ length (decimal a) + (1 + (length (running_text r) + (1 + (length (decimal w) + 1))))
unfolding reply_line
reply_length a r w =
    let last : List ℕ = decimal w ++ (newline ∷ []) in
    let e : length (running_text r ++ (space ∷ last)) ≡ length (running_text r) + suc (length last) =
    length-append (running_text r) (space ∷ last) in
    let f : length last ≡ length (decimal w) + 1 = length-append (decimal w) (newline ∷ []) in
    length-append (decimal a) (space ∷ (running_text r ++ (space ∷ last))) ∙ omega arith

pub running_length : (r : ℕ) → length (running_text r) ≡ cond (eqb r nobody_byte) 1 (length (decimal r))
running_length r =
    split r nobody_byte (λ e. ap length (running-nobody r e) ∙ rw (eq-eqb r nobody_byte e))
    (λ e. ap length (running-task r e) ∙ rw (ne_eqb r nobody_byte e))

pub running-short : (r : ℕ) → r < 256 → length (running_text r) ≤ 3
running-short r h =
    split r nobody_byte (λ e. omega (arith, ap length (running-nobody r e)))
    (λ e. omega (arith, ap length (running-task r e), byte_short r h))

pub reply-short : (a r w : ℕ) → a < 256 → r < 256 → w < 256 → length (reply_line a r w) ≤ reply_room
reply-short a r w h g f = omega (arith, reply_length a r w, byte_short a h, running-short r g, byte_short w f)

-- the place of a fault
module _ (number task position : ℕ) where
  pub place-some : has_place number ≡ true → place_text number task position ≡ space ∷ (decimal task ++ (space ∷ decimal position))
  unfolding place_text
  place-some h = rw h

  pub place-none : has_place number ≡ false → place_text number task position ≡ []
  unfolding place_text
  place-none h = rw h

  pub place_length : has_place number ≡ true →
      length (place_text number task position) ≡ 1 + (length (decimal task) + (1 + length (decimal position)))
  place_length h = ap length (place-some h) ∙ omega (arith, length-append (decimal task) (space ∷ decimal position))

  pub place_short : task < 256 → position < 2 ^ 64 → length (place_text number task position) ≤ 25
  place_short t p =
      by-test (has_place number)
      (λ e. omega (arith, place_length e, byte_short task t, number_short position p))
      (λ e. omega (arith, ap length (place-none e)))

-- while lines are put: what is to come, from where the last one ended
pub record Left (before : Page) (whole : List ℕ) (page : Page) (rest : List ℕ) : Type 0 where
  pub bytes : sets before.out.now before.size whole ≡ sets page.out.now page.size rest
  pub end : before.size + length whole ≡ page.size + length rest
  pub room : length page.out.now ≡ length before.out.now
  pub same : page.out.ghost_name ≡ before.out.ghost_name

module _ {before page after : Page} {whole : List ℕ} where
  pub left-turn : (t rest : List ℕ) {tail : List ℕ} → tail ≡ t ++ rest → Left before whole page tail → Added page t after →
      Left before whole after rest
  left-turn t rest {tail} e l p =
      let b = page.out.now in
      let bytes = l.bytes ∙ (ap (λ (x : List ℕ). sets b page.size x) e ∙ sets-append b page.size t rest) in
      let moved = ap (λ (x : List ℕ). sets x (page.size + length t) rest) p.bytes in
      record {
        bytes = bytes ∙ (sym moved ∙ ap (λ (k : ℕ). sets after.out.now k rest) (sym p.end));
        end = omega (arith, l.end, ap length e, length-append t rest, p.end);
        room = p.room ∙ l.room;
        same = p.same ∙ l.same;
      }

pub left_end : {before page : Page} {whole rest : List ℕ} → rest ≡ [] → page.size ≤ length before.out.now → Left before whole page rest →
    Added before whole page
left_end {before} {page} e h l =
    record {
      bytes = sym (l.bytes ∙ ap (λ (x : List ℕ). sets page.out.now page.size x) e);
      end = omega (arith, l.end, ap length e);
      room = l.room;
      fits = h;
      same = l.same;
    }

-- the lines of replies, three bytes at a time
pub replies-here : (l : List ℕ) (i : ℕ) → reply_size * i + 2 < length l →
    reply_lines (drop (reply_size * i) l) ≡
    reply_line (get_or l (reply_size * i) 0) (get_or l (reply_size * i + 1) 0) (get_or l (reply_size * i + 2) 0) ++
    reply_lines (drop (reply_size * (i + 1)) l)
unfolding reply_lines
replies-here l i h =
    let k = reply_size * i in
    let one : suc k ≡ k + 1 = omega arith in
    let two : suc (suc k) ≡ k + 2 = omega arith in
    let three : suc (suc (suc k)) ≡ reply_size * (i + 1) = omega arith in
    let c : drop (suc (suc k)) l ≡ get_or l (suc (suc k)) 0 ∷ drop (suc (suc (suc k))) l = drop-cons l (suc (suc k)) 0 (omega arith) in
    let b : drop (suc k) l ≡ get_or l (suc k) 0 ∷ drop (suc (suc k)) l = drop-cons l (suc k) 0 (omega arith) in
    let a : drop k l ≡ get_or l k 0 ∷ drop (suc k) l = drop-cons l k 0 (omega arith) in
    ap reply_lines (a ∙ ap (λ (x : List ℕ). get_or l k 0 ∷ x) (b ∙ ap (λ (x : List ℕ). get_or l (suc k) 0 ∷ x) c)) ∙ rw (three, two, one)

-- .. as their chunks have them
module _ (l : List ℕ) (chunks : List (List ℕ)) (i : ℕ) (e : chunks ≡ first_chunks reply_size (length l / reply_size) l)
    (h : i < length l / reply_size) where
  item : (j : ℕ) → j < reply_size → get_or (get_or chunks i []) j 0 ≡ get_or l (reply_size * i + j) 0
  item j g =
      ap (λ (c : List (List ℕ)). get_or (get_or c i []) j 0) e ∙ chunk-item l reply_size (length l / reply_size) i j 0 h g

  abbrev line : List ℕ
  line = reply_line (get_or (get_or chunks i []) 0 0) (get_or (get_or chunks i []) 1 0) (get_or (get_or chunks i []) 2 0)

  pub replies-turn : reply_lines (drop (reply_size * i) l) ≡ line ++ reply_lines (drop (reply_size * (i + 1)) l)
  replies-turn =
      rw (item 0 (omega arith), item 1 (omega arith), item 2 (omega arith), add-zero (reply_size * i))
      (replies-here l i (omega arith))

  pub turn-short : ((j : ℕ) → Fits w8 (get_or l j 0)) → length line ≤ reply_room
  turn-short bytes =
      let below : (j : ℕ) → j < reply_size → get_or (get_or chunks i []) j 0 < 256 =
      λ j g. rw (item j g) (bytes (reply_size * i + j)).fits in
      reply-short _ _ _ (below 0 (omega arith)) (below 1 (omega arith)) (below 2 (omega arith))

pub replies-done : (l : List ℕ) → length l ≤ 2 → reply_lines l ≡ []
unfolding reply_lines
replies-done [] h = refl
replies-done (a ∷ []) h = refl
replies-done (a ∷ r ∷ []) h = refl
replies-done (a ∷ r ∷ w ∷ rest) h = absurd (omega arith)

pub replies-end : (replies : List ℕ) (i : ℕ) → length replies / reply_size ≤ i → reply_lines (drop (reply_size * i) replies) ≡ []
replies-end replies i h = replies-done (drop (reply_size * i) replies) (omega (arith, length-drop (reply_size * i) replies))

-- the test of the room, without a product
module _ (replies : List ℕ) (room : ℕ) where
  pub room-small : room < other_room → leb other_room room ≡ leb (room_for replies) room
  unfolding room_for
  room-small h = lt-leb other_room room h ∙ sym (lt-leb (other_room + reply_room * (length replies / reply_size)) room (omega arith))

  pub room-large : other_room ≤ room → leb (length replies / reply_size) ((room - other_room) / reply_room) ≡ leb (room_for replies) room
  unfolding room_for
  room-large h =
      by-test (leb (length replies / reply_size) ((room - other_room) / reply_room))
      (λ e.
      let g : length replies / reply_size ≤ (room - other_room) / reply_room = leb-true _ _ e in
      e ∙ sym (le-leb (other_room + reply_room * (length replies / reply_size)) room (omega arith)))
      (λ e.
      let g : (room - other_room) / reply_room < length replies / reply_size = leb-false _ _ e in
      e ∙ sym (lt-leb (other_room + reply_room * (length replies / reply_size)) room (omega arith)))

-- what a buffer has after the lines, and how many bytes they are
module _ (a : RunAnswer) (replies out : List ℕ) where
  pub lines_none : leb (room_for replies) (length out) ≡ false → (0 ≡ lines_size a replies out) × (out ≡ lines_buffer a replies out)
  unfolding lines_size lines_buffer
  lines_none e = (sym (rw e), sym (rw e))

  pub lines-made : {page : Page} (after : Page) → leb (room_for replies) (length out) ≡ true → page.out.now ≡ out → page.size ≡ 0 →
      Added page (lines_of a replies) after → (after.size ≡ lines_size a replies out) × (after.out.now ≡ lines_buffer a replies out)
  unfolding lines_size lines_buffer
  lines-made {page} after h e f p =
      let text = lines_of a replies in
      let front : sets out 0 text ≡ text ++ drop (length text) out = sets-front out text (omega (arith, p.fits, p.end, ap length e)) in
      let bytes = p.bytes ∙ (ap (λ (b : List ℕ). sets b page.size text) e ∙ (ap (λ (k : ℕ). sets out k text) f ∙ front)) in
      (rw h (omega (arith, p.end)), rw h bytes)
