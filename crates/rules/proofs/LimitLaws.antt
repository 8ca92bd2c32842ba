-- What the tests of the limits take, and what the test of counts says, said apart.
use mathlib.Core.Path.{◌≡◌, refl}
use mathlib.Core.Bool.{true, ◌&&◌}
use Prim.Native.Nat.{ℕ, ◌≤◌}
use borrow.Author.Tests.{leb-true, le-leb}
use lib.Dec.{leb}
use Rattle.rules.specs.Limits.{task_limit, object_limit, counts_good, LimitsClaim}
use Rattle.rules.proofs.Choices.{and_left, and_right}

pub limits-claim : LimitsClaim
limits-claim = (refl, refl, refl, refl, refl, refl, refl, refl, refl)

pub record Counted (n m : ℕ) : Type 0 where
  pub some : 1 ≤ n
  pub tasks : n ≤ task_limit
  pub objects : m ≤ object_limit

pub counted-by : (n m : ℕ) → counts_good n m ≡ true → Counted n m
counted-by n m e =
    let tasks = and_left (leb 1 n && leb n task_limit) (leb m object_limit) e in
    record {
      some = leb-true 1 n (and_left (leb 1 n) (leb n task_limit) tasks);
      tasks = leb-true n task_limit (and_right (leb 1 n) (leb n task_limit) tasks);
      objects = leb-true m object_limit (and_right (leb 1 n && leb n task_limit) (leb m object_limit) e);
    }

pub counts-in : (n m : ℕ) → Counted n m → counts_good n m ≡ true
counts-in n m c = rw (le-leb 1 n c.some, le-leb n task_limit c.tasks, le-leb m object_limit c.objects)
