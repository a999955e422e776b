-- Laws of tests, and of the lists that a history is read by.
use mathlib.Core.Path.{◌≡◌, refl, sym, ap, subst, ◌∙◌}
use mathlib.Core.Bool.{Bool, true, false, ◌&&◌, ◌||◌}
use mathlib.Core.List.{List, [], ◌∷◌, ◌++◌, append_assoc, append-nil}
use Prim.Native.Nat.{ℕ, zero, suc, ◌+◌, ◌≤◌, ◌<◌}
use native.Mathlib.Omega.{arith}
use native.Mathlib.Decide.{dec_lt}
use lib.IntN.{pos, nat_abs, -ℤ-+ℤ_cancel}
use lib.ListN.{length, get_or, length-append, get_or-append}
use lib.Seq.{get_or-append_seam}
use Rattle.basics.specs.Bytes.{if}
use Rattle.mmc.specs.Times.{lead_frames, frames_to, address_at}
use Rattle.mmc.specs.Refusals.{pass, Test}
use Rattle.mmc.specs.declared.units.FrameCount.{FrameCount}
use Rattle.mmc.specs.declared.order.Order.{Order}
use Rattle.recorder.specs.Answers.{Why, because}
use Rattle.recorder.specs.declared.script.Op.{Op}
use Rattle.recorder.specs.Script.{Block, blocks, gather}
use Rattle.recorder.specs.Exchanges.{upward}
use Rattle.recorder.specs.Rules.{Judgement, onward, refused, tested, none, found, refused_by}

-- ---- tests

pub if_yes : {A : Type 0} {b : Bool} (x y : A) → b ≡ true → if b x y ≡ x
if_yes x y e = ap (λ (t : Bool). if t x y) e

pub if_no : {A : Type 0} {b : Bool} (x y : A) → b ≡ false → if b x y ≡ y
if_no x y e = ap (λ (t : Bool). if t x y) e

-- from two constructors that are equal: `clash (cc)`
pub clash : {A : Type 0} → ◌≡◌ {A = ℕ} 0 1 → A
clash e = absurd (omega arith)

pub never : (b : Bool) → b && false ≡ false
never true = refl
never false = refl

pub none_found : (w : Why) → none ≡ found w → ⊥
none_found w e = clash (cc)

pub same_order : (o p : Order) → pass o ≡ pass p → o ≡ p
same_order o p e = cc

-- an address comes back to its frames
pub frames_back : (f : FrameCount) → (frames_to (address_at f)).0 ≡ f.0
unfolding frames_to address_at
frames_back f = ap nat_abs (-ℤ-+ℤ_cancel (pos f.0) (pos lead_frames))

-- ---- the tests of a judgement

-- none of them applies
abbrev pub Clear : List Test → Type 0
Clear [] = Unit {0}
Clear (t ∷ ts) = (t.applies ≡ false) × Clear ts

pub passed_clear : (ts : List Test) (xs : List Op) → refused_by (tested ts xs) ≡ none → Clear ts
passed_clear [] xs e = tt
passed_clear (t ∷ ts) xs e = go t.applies refl e (λ q. passed_clear ts xs q)
  where
    go : (b : Bool) → t.applies ≡ b → refused_by (if b (refused (because t.number)) (tested ts xs)) ≡ none → (refused_by (tested ts xs) ≡ none → Clear ts) → Clear (t ∷ ts)
    go true q e c = absurd (none_found _ (sym e))
    go false q e c = (q, c e)

pub clear_passes : (ts : List Test) (xs : List Op) → Clear ts → tested ts xs ≡ onward xs
clear_passes [] xs c = refl
clear_passes (t ∷ ts) xs c = if_no _ _ c.0 ∙ clear_passes ts xs c.1

-- they pass, and none applies, or one of them refuses
pub tested_by : (P : Judgement → Type 0) (ts : List Test) (xs : List Op) → (Clear ts → P (onward xs)) → ((k : ℕ) → P (refused (because k))) → P (tested ts xs)
tested_by P [] xs p q = p tt
tested_by P (t ∷ ts) xs p q = go t.applies refl (λ e. tested_by P ts xs (λ c. p (e, c)) q)
  where
    go : (b : Bool) → t.applies ≡ b → (t.applies ≡ false → P (tested ts xs)) → P (if b (refused (because t.number)) (tested ts xs))
    go true e h = q t.number
    go false e h = h e

-- ---- gathering

pub gather_append : {A B : Type 0} (f : A → List B) (xs ys : List A) → gather f (xs ++ ys) ≡ gather f xs ++ gather f ys
gather_append f [] ys = refl
gather_append {B = B} f (x ∷ xs) ys = ap (λ (l : List B). f x ++ l) (gather_append f xs ys) ∙ sym (append_assoc (f x) (gather f xs) (gather f ys))

pub nothing_after : {A : Type 0} (x y : List A) → y ≡ [] → x ++ y ≡ x
nothing_after {A = A} x y e = ap (λ (l : List A). x ++ l) e ∙ append-nil x

-- blocks in two parts
pub blocks_split : (t f k m : ℕ) → blocks t f (k + m) ≡ blocks t f k ++ blocks t (f + k) m
blocks_split t f zero m =
    let p : 0 + m ≡ m = omega arith in
    let q : f ≡ f + 0 = omega arith in
    ap (λ (j : ℕ). blocks t f j) p ∙ ap (λ (g : ℕ). blocks t g m) q
blocks_split t f (suc k) m =
    let p : suc k + m ≡ suc (k + m) = omega arith in
    let q : suc f + k ≡ f + suc k = omega arith in
    let b : Block = record { track = t; number = f } in
    ap (λ (j : ℕ). blocks t f j) p ∙
    ap (λ (l : List Block). b ∷ l) (blocks_split t (suc f) k m ∙ ap (λ (g : ℕ). blocks t (suc f) k ++ blocks t g m) q)

pub blocks_length : (t f k : ℕ) → length (blocks t f k) ≡ k
blocks_length t f zero = refl
blocks_length t f (suc k) = ap suc (blocks_length t (suc f) k)

-- a list that rises and stays under a bound
pub data Under : ℕ → List ℕ → Type 0 where
  nowhere : {b : ℕ} → Under b []
  more : {b x : ℕ} {l : List ℕ} → Under x l → x < b → Under b (l ++ (x ∷ []))

pub under_more : {b c : ℕ} {l : List ℕ} → Under b l → b ≤ c → Under c l
under_more nowhere h = nowhere
under_more {b = b} {c = c} (more {x = x} u l) h = let q : x < c = omega arith in more u q

pub under_upward : (a k : ℕ) (l : List ℕ) → Under a l → Under (a + k) (l ++ upward a k)
under_upward a zero l u = subst (λ (m : List ℕ). Under (a + 0) m) (sym (append-nil l)) (under_more u (omega arith))
under_upward a (suc k) l u =
    let p : suc a + k ≡ a + suc k = omega arith in
    let q : a < suc a = omega arith in
    let v : Under (suc a) (l ++ (a ∷ [])) = more u q in
    subst (λ (b : ℕ). Under b (l ++ upward a (suc k))) p
    (subst (λ (m : List ℕ). Under (suc a + k) m) (append_assoc l (a ∷ []) (upward (suc a) k)) (under_upward (suc a) k (l ++ (a ∷ [])) v))

under_at_snoc : (b x : ℕ) (l : List ℕ) (i : ℕ) → ((p : i < length l) → get_or l i 0 < x) → x < b → i < length (l ++ (x ∷ [])) → get_or (l ++ (x ∷ [])) i 0 < b
under_at_snoc b x l i f h lt = go (dec_lt i (length l))
  where
    go : Dec (i < length l) → get_or (l ++ (x ∷ [])) i 0 < b
    go (yes p) = let q : get_or l i 0 < x = f p in rw (get_or-append l (x ∷ []) 0 i p) (omega arith)
    go (no p) = let e : i ≡ length l = omega (arith, length-append l (x ∷ [])) in rw (e, get_or-append_seam l x [] 0) h

pub under_at : {b : ℕ} {l : List ℕ} → Under b l → (i : ℕ) → i < length l → get_or l i 0 < b
under_at nowhere i h = absurd (omega arith)
under_at (more {b = b} {x = x} {l = l} u h) i lt = under_at_snoc b x l i (λ p. under_at u i p) h lt

under_rises_snoc : (x : ℕ) (l : List ℕ) (i j : ℕ) → Under x l → ((p : j < length l) → get_or l i 0 < get_or l j 0) → i < j → j < length (l ++ (x ∷ [])) → get_or (l ++ (x ∷ [])) i 0 < get_or (l ++ (x ∷ [])) j 0
under_rises_snoc x l i j u f ij lt = go (dec_lt j (length l))
  where
    go : Dec (j < length l) → get_or (l ++ (x ∷ [])) i 0 < get_or (l ++ (x ∷ [])) j 0
    go (yes p) =
        let q : i < length l = omega arith in
        rw (get_or-append l (x ∷ []) 0 i q, get_or-append l (x ∷ []) 0 j p) (f p)
    go (no p) =
        let e : j ≡ length l = omega (arith, length-append l (x ∷ [])) in
        let q : i < length l = omega arith in
        rw (get_or-append l (x ∷ []) 0 i q, e, get_or-append_seam l x [] 0) (under_at u i q)

pub under_rises : {b : ℕ} {l : List ℕ} → Under b l → (i j : ℕ) → i < j → j < length l → get_or l i 0 < get_or l j 0
under_rises nowhere i j h lt = absurd (omega arith)
under_rises (more {x = x} {l = l} u h) i j ij lt = under_rises_snoc x l i j u (λ p. under_rises u i j ij p) ij lt
