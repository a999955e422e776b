-- The text of packs gathered pack by pack, and cut behind its last byte that is not zero.
use mathlib.Core.Path.{◌≡◌, refl, ap, ◌∙◌}
use mathlib.Core.List.{List, [], ◌∷◌, ◌++◌, append_assoc}
use mathlib.Core.Bool.{Bool, true, false, ◌&&◌}
use Prim.Native.Nat.{ℕ, zero, suc, ◌+◌, ◌*◌, ◌≤◌, ◌<◌}
use native.Mathlib.Numerals.{add-one}
use native.Mathlib.Omega.{arith}
use lib.Dec.{eqb}
use lib.ListN.{length, get_or, take, drop, length-append, length-drop}
use lib.Seq.{length-take-le, drop-drop, take-append-add}
use borrow.Rule.Slice.PartMut.{put_mid}
use borrow.Author.Tests.{eq-eqb, ne_eqb}
use Rattle.basics.specs.Bytes.{all_zero}
use Rattle.basics.proofs.Tests.{known}
use Rattle.basics.proofs.Lists.{zeros}
use Rattle.basics.proofs.Bytes.{zeros_are}
use Rattle.cdtext.specs.Packs.{text_in, trimmed}
use Rattle.cdtext.proofs.packs.Steps.{put_more}

-- ---- the text of packs

pub text_length : (k : ℕ) (b : List ℕ) → 18 * k ≤ length b → length (text_in k b) ≡ 12 * k
unfolding text_in
text_length zero b h = refl
text_length (suc k) b h =
    let t = take 12 (drop (18 * k + 4) b) in
    omega (arith, text_length k b (omega arith), length-append (text_in k b) t, length-take-le 12 (drop (18 * k + 4) b) (omega (arith, length-drop (18 * k + 4) b)))

-- the text of the first k of n packs is written over d
pub record Gathering (b : List ℕ) (n : ℕ) (d text : List ℕ) (k : ℕ) : Type 0 where
  pub reach : k ≤ n
  pub packs : 18 * n ≤ length b
  pub room : 12 * n ≤ length d
  pub long : length text ≡ length d
  pub done : text ≡ text_in k b ++ drop (12 * k) d

pub gathering_start : (b : List ℕ) (n : ℕ) (d : List ℕ) → 18 * n ≤ length b → 12 * n ≤ length d → Gathering b n d d 0
unfolding text_in
gathering_start b n d h r = record { reach = omega arith; packs = h; room = r; long = refl; done = refl }

pub gathering_next : (b : List ℕ) (n : ℕ) (d text : List ℕ) (k : ℕ) → Gathering b n d text k → k < n → (u w : ℕ) → u ≡ 12 → w ≡ 12
    → (ys : List ℕ) → ys ≡ take u (drop (18 * k + 4) b) → Gathering b n d (put_mid (12 * k) w text ys) (k + 1)
unfolding text_in
gathering_next b n d text k v h u w eu ew ys ey =
    let hb = v.packs in
    let hd = v.room in
    let hl = v.long in
    let t' = put_mid (12 * k) w text ys in
    let s = text_in k b in
    let p = take u (drop (18 * k + 4) b) in
    let lp : length p ≡ 12 = length-take-le u (drop (18 * k + 4) b) (omega (arith, length-drop (18 * k + 4) b)) ∙ eu in
    let ls = text_length k b (omega arith) in
    let n1 : 12 * k + 12 ≡ 12 * suc k = omega arith in
    let q : t' ≡ take (12 * k) text ++ p ++ drop (12 * k + 12) text = rw (ey, ew, drop-drop 12 (12 * k) text, append_assoc (take (12 * k) text) p (drop (12 * k + 12) text)) in
    let f : t' ≡ s ++ p ++ drop (12 * k + 12) d = put_more s p d text t' (12 * k) 12 ls v.done q in
    record {
      reach = omega arith;
      packs = hb;
      room = hd;
      long = omega (arith, ap length f, length-append (s ++ p) (drop (12 * k + 12) d), length-append s p, length-drop (12 * k + 12) d);
      done = f ∙ rw (add-one k, n1, eu);
    }

pub gathering_end : (b : List ℕ) (n : ℕ) (d text : List ℕ) (k : ℕ) → Gathering b n d text k → n ≤ k → text ≡ text_in n b ++ drop (12 * n) d
gathering_end b n d text k v h =
    let r = v.reach in
    let e : k ≡ n = omega arith in
    v.done ∙ rw e

-- ---- the end of a text

-- a text of zeros alone
all_zeros : (xs : List ℕ) → ((k : ℕ) → k < length xs → get_or xs k 0 ≡ 0) → all_zero xs ≡ true
unfolding all_zero
all_zeros [] h = refl
all_zeros (x ∷ xs) h = rw (eq-eqb x 0 (h 0 (omega arith)), all_zeros xs (λ k l. h (suc k) (omega arith)))

pub none_left : (xs : List ℕ) → ((k : ℕ) → k < length xs → get_or xs k 0 ≡ 0) → length (trimmed xs) ≡ 0
unfolding trimmed
none_left [] h = refl
none_left (x ∷ xs) h = rw (all_zeros (x ∷ xs) h)

-- one that is not zero
not_zeros : (xs : List ℕ) (i : ℕ) → i < length xs → (get_or xs i 0 ≡ 0 → ⊥) → all_zero xs ≡ false
unfolding all_zero
not_zeros [] i h n = absurd (omega arith)
not_zeros (x ∷ xs) zero h n = rw (ne_eqb x 0 n)
not_zeros (x ∷ xs) (suc i) h n = rw (not_zeros xs i (omega arith) n) (none (eqb x 0))
  where
    none : (b : Bool) → (b && false) ≡ false
    none true = refl
    none false = refl

-- with zeros alone behind it
pub last_left : (xs : List ℕ) (i : ℕ) → i < length xs → (get_or xs i 0 ≡ 0 → ⊥) → ((k : ℕ) → i < k → k < length xs → get_or xs k 0 ≡ 0) → length (trimmed xs) ≡ i + 1
unfolding trimmed
last_left [] i h n z = absurd (omega arith)
last_left (x ∷ xs) zero h n z =
    rw (not_zeros (x ∷ xs) zero h n) (omega (arith, none_left xs (λ k l. z (suc k) (omega arith) (omega arith))))
last_left (x ∷ xs) (suc i) h n z =
    rw (not_zeros (x ∷ xs) (suc i) h n) (omega (arith, last_left xs i (omega arith) n (λ k a l. z (suc k) (omega arith) (omega arith))))

-- ---- a text over zeros

-- what is cut off is zeros
pub cut_off : (s : List ℕ) → (m : ℕ) × (s ≡ trimmed s ++ zeros m)
unfolding trimmed
cut_off [] = (0, refl)
cut_off (x ∷ s) =
    known (all_zero (x ∷ s)) (λ e. (suc (length s), zeros_are (x ∷ s) e ∙ rw e))
    (λ e. let w = cut_off s in (w.0, ap (λ (l : List ℕ). x ∷ l) w.1 ∙ rw e))

pub cut_under : (s : List ℕ) → length (trimmed s) ≤ length s
cut_under s = let w = cut_off s in omega (arith, ap length w.1, length-append (trimmed s) (zeros w.0))

one_zero : (j m : ℕ) → 0 < m → take 1 (zeros j ++ zeros m) ≡ 0 ∷ []
one_zero zero zero h = absurd (omega arith)
one_zero zero (suc m) h = refl
one_zero (suc j) m h = refl

-- up to one zero behind the last byte that is not zero
pub one_more : (s : List ℕ) (m : ℕ) → 0 < m → take (length (trimmed s) + 1) (s ++ zeros m) ≡ trimmed s ++ 0 ∷ []
one_more s m h =
    let w = cut_off s in
    let t = trimmed s in
    ap (λ (l : List ℕ). take (length t + 1) (l ++ zeros m)) w.1
    ∙ ap (take (length t + 1)) (append_assoc t (zeros w.0) (zeros m))
    ∙ take-append-add t (zeros w.0 ++ zeros m) 1
    ∙ ap (λ (l : List ℕ). t ++ l) (one_zero w.0 m h)
