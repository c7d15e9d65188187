-- Tests that hold, as facts: how a rule written as a test is taken apart and put together.
use Rattle.std.specs.Prelude.{◌≡◌, refl, Bool, true, false, ◌&&◌, T, eqb, ℕ}
use Rattle.std.proofs.Math.Dec.{eqb_refl}

pub both_of : (a b : Bool) → T (a && b) → T a × T b
both_of true b h = (tt, h)
both_of false b h = absurd h

pub and_of : (a b : Bool) → T a → T b → T (a && b)
and_of true b h k = k
and_of false b h k = h

pub eq→eqb : (m n : ℕ) → m ≡ n → T (eqb m n)
eq→eqb m n e = rw e (eqb_refl n)

pub true-T : (b : Bool) → b ≡ true → T b
true-T b e = rw e tt

pub T_true : (b : Bool) → T b → b ≡ true
T_true true h = refl
T_true false h = absurd h

-- A test decided: it holds, or it is false.
pub data Test (b : Bool) : Type 0 where
  holds : T b → Test b
  fails : b ≡ false → Test b

pub test : (b : Bool) → Test b
test true = holds tt
test false = fails refl
