-- Laws on tests.
use mathlib.Core.Path.{◌≡◌, refl}
use mathlib.Core.Bool.{Bool, true, false}
use Prim.Native.Nat.{ℕ, ◌<◌}
use native.Mathlib.Omega.{arith}
use Rattle.basics.specs.Bytes.{if}

-- a fault that is 0 took the way that may be
pub if_zero : (t : Bool) (x y : ℕ) → 0 < y → if t x y ≡ 0 → t ≡ true
if_zero true x y h e = refl
if_zero false x y h e = absurd (never y h e)
  where
    never : (y : ℕ) → 0 < y → y ≡ 0 → ⊥
    never y h e = omega arith

-- a test is true or false
pub known {ℓ} : {X : Type ℓ} (b : Bool) → (b ≡ true → X) → (b ≡ false → X) → X
known true f g = f refl
known false f g = g refl
