-- What a reader of fields answers says whether they are listed.
use Rattle.std.proofs.Common.{◌≡◌, refl, sym, ℕ, List, Bool, true, false, Result, Ok, Err}
use Rattle.std.specs.Result.{IsErrAnd}
use Rattle.std.proofs.lemmas.Result.{err_from_is_err_and}
use Rattle.mmc.specs.Block.{block_fault, block_read}
use Rattle.mmc.specs.Refusals.{outcome_of}
use Rattle.mmc.specs.OrderBlock.{listed}
use Rattle.mmc.specs.declared.refusals.Refusal.{Refusal}
use Rattle.mmc.specs.declared.refusals.Refusal.TheVariants.{FieldValue}
use Rattle.mmc.proofs.block.Laws.{read_listed, read_unlisted}

pub was_listed : {A : Type 0} (t : Bool) (a x : A) → Ok x ≡ listed t a → (t ≡ true) × (x ≡ a)
was_listed true a x e = (refl, cc)
was_listed false a x e = absurd (cc)

pub was_unlisted : {A : Type 0} (t : Bool) (a : A) (r : Refusal)
    → Err r ≡ listed t a → (t ≡ false) × (r ≡ FieldValue)
was_unlisted true a r e = absurd (cc)
was_unlisted false a r e = (refl, cc)

-- what leaves a reader where a part is not listed
pub left : {A B : Type 0} {r : Result A Refusal} {t u : Bool} {e : Refusal} (a : A) (x : B)
    → IsErrAnd r (λ y. y ≡ e) → Err e ≡ listed u x → (u ≡ false → t ≡ false) → r ≡ listed t a
left {r = r} {u = u} {e = e} a x out part off =
    let p = err_from_is_err_and r out in
    let w = was_unlisted u x e part in
    rw (p.1, p.2, w.1, off w.0)

-- what a reader finds in a block without a fault
pub read_of : {A : Type 0} (b : List ℕ) (t : Bool) (x : A)
    → block_fault b ≡ 0 → outcome_of (listed t x) ≡ block_read b t x
read_of b true x e = sym (read_listed b true x e refl)
read_of b false x e = sym (read_unlisted b false x e refl)
