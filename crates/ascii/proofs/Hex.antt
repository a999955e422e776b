-- Bytes in hex, one code at a time.
use mathlib.Core.Path.{◌≡◌, refl, ◌∙◌}
use mathlib.Core.List.{List, [], ◌∷◌}
use Prim.Native.Nat.{ℕ, zero, suc, ◌+◌, ◌-◌, ◌*◌, ◌/◌, ◌%◌, ◌≤◌, ◌<◌}
use native.Mathlib.Omega.{arith}
use lib.ListN.{length, get_or, set}
use lib.Seq.{paste, paste-suc, take-length}
use Rattle.basics.specs.Bytes.{put_at}
use Rattle.ascii.specs.Text.{codes, digit, parted, Adds}
use Rattle.ascii.proofs.Laws.{fitting, empty}

-- n bytes have 3 n - 1 codes
size_from : (b : ℕ) (bytes : List ℕ) → length (parted (b ∷ bytes)) + 1 ≡ 3 * length (b ∷ bytes)
unfolding codes parted
size_from b [] = refl
size_from b (c ∷ bytes) = omega (arith, size_from c bytes)

pub parted_size : (bytes : List ℕ) → 0 < length bytes → length (parted bytes) + 1 ≡ 3 * length bytes
parted_size [] h = absurd (omega arith)
parted_size (b ∷ bytes) h = size_from b bytes

pub parted_short : (bytes : List ℕ) → length (parted bytes) ≤ 3 * length bytes
unfolding parted
parted_short [] = omega arith
parted_short (b ∷ bytes) = omega (arith, size_from b bytes)

-- the codes of the byte at i, and the space behind it where it is not the last
pub high_code : (bytes : List ℕ) (i : ℕ) → i < length bytes → get_or (parted bytes) (3 * i) 0 ≡ digit (get_or bytes i 0 / 16)
unfolding codes parted
high_code [] i h = absurd (omega arith)
high_code (b ∷ []) zero h = refl
high_code (b ∷ []) (suc i) h = absurd (omega arith)
high_code (b ∷ c ∷ bytes) zero h = refl
high_code (b ∷ c ∷ bytes) (suc i) h = let e : 3 * suc i ≡ suc (suc (suc (3 * i))) = omega arith in rw e (high_code (c ∷ bytes) i (omega arith))

pub low_code : (bytes : List ℕ) (i : ℕ) → i < length bytes → get_or (parted bytes) (suc (3 * i)) 0 ≡ digit (get_or bytes i 0 % 16)
unfolding codes parted
low_code [] i h = absurd (omega arith)
low_code (b ∷ []) zero h = refl
low_code (b ∷ []) (suc i) h = absurd (omega arith)
low_code (b ∷ c ∷ bytes) zero h = refl
low_code (b ∷ c ∷ bytes) (suc i) h = let e : 3 * suc i ≡ suc (suc (suc (3 * i))) = omega arith in rw e (low_code (c ∷ bytes) i (omega arith))

pub space_code : (bytes : List ℕ) (i : ℕ) → i + 1 < length bytes → get_or (parted bytes) (suc (suc (3 * i))) 0 ≡ 32
unfolding codes parted
space_code [] i h = absurd (omega arith)
space_code (b ∷ []) i h = absurd (omega arith)
space_code (b ∷ c ∷ bytes) zero h = refl
space_code (b ∷ c ∷ bytes) (suc i) h = let e : 3 * suc i ≡ suc (suc (suc (3 * i))) = omega arith in rw e (space_code (c ∷ bytes) i (omega arith))

-- no bytes have no codes
pub none : (bytes d : List ℕ) (at : ℕ) → length bytes ≡ 0 → Adds (parted bytes) at d at d
unfolding parted
none [] d at h = empty d at
none (b ∷ bytes) d at h = absurd (omega arith)

-- all codes
pub whole : (d bytes x : List ℕ) (at e : ℕ) → 0 < length bytes → at + 3 * length bytes ≤ length d + 1 → e + 1 ≡ at + 3 * length bytes → x ≡ paste d at (parted bytes) (suc (suc (3 * (length bytes - 1)))) → Adds (parted bytes) at d e x
unfolding put_at
whole d bytes x at e h fits ee p =
    let n = parted_size bytes h in
    let m : suc (suc (3 * (length bytes - 1))) ≡ length (parted bytes) = omega arith in
    fitting (parted bytes) d at (omega arith) (omega arith) (p ∙ rw (m, take-length (parted bytes)))

-- one more code of a text
store : (d s : List ℕ) (at j k x : ℕ) → k ≡ at + j → get_or s j 0 ≡ x → at + j < length d → j < length s → set (paste d at s j) k x ≡ paste d at s (suc j)
store d s at j k x ek ex hd hs = rw (ek, ← ex) (paste-suc d at s j 0 hd hs)

module _ (d bytes : List ℕ) (at i e : ℕ) (fits : at + 3 * length bytes ≤ length d + 1) (ee : e ≡ at + 3 * i) where
  -- the two codes of a byte
  pub both : (x : List ℕ) → i < length bytes → x ≡ paste d at (parted bytes) (3 * i) → set (set x e (digit (get_or bytes i 0 / 16))) (e + 1) (digit (get_or bytes i 0 % 16)) ≡ paste d at (parted bytes) (suc (suc (3 * i)))
  both x h p =
      let n : length (parted bytes) + 1 ≡ 3 * length bytes = parted_size bytes (omega arith) in
      let hi = store d (parted bytes) at (3 * i) e (digit (get_or bytes i 0 / 16)) ee (high_code bytes i h) (omega arith) (omega arith) in
      let lo = store d (parted bytes) at (suc (3 * i)) (e + 1) (digit (get_or bytes i 0 % 16)) (omega arith) (low_code bytes i h) (omega arith) (omega arith) in
      rw (p, hi) lo

  -- and a space behind them
  pub spaced : (x : List ℕ) → i + 1 < length bytes → x ≡ paste d at (parted bytes) (suc (suc (3 * i))) → set x (e + 2) 32 ≡ paste d at (parted bytes) (3 * (i + 1))
  spaced x h p =
      let n : length (parted bytes) + 1 ≡ 3 * length bytes = parted_size bytes (omega arith) in
      let m : 3 * (i + 1) ≡ suc (suc (suc (3 * i))) = omega arith in
      rw (p, m) (store d (parted bytes) at (suc (suc (3 * i))) (e + 2) 32 (omega arith) (space_code bytes i h) (omega arith) (omega arith))
