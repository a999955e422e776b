-- Packs put one after another: how long they are, and the text that they bear.
use mathlib.Core.Path.{◌≡◌, refl, sym, ap, ◌∙◌}
use mathlib.Core.List.{List, [], ◌∷◌, ◌++◌, append_assoc, append-nil}
use mathlib.Core.Bool.{true, false}
use Prim.Native.Nat.{ℕ, zero, suc, ◌+◌, ◌-◌, ◌*◌, ◌≤◌, min}
use native.Mathlib.Numerals.{add-one}
use native.Mathlib.Omega.{arith}
use lib.Dec.{eqb}
use lib.ListN.{length, take, drop, replicate, length-append, length-take, length-drop}
use lib.Seq.{take-append-le, drop-append-le, take_at, drop_at, drop-drop, take-add, take_all}
use borrow.Author.Tests.{eqb-true}
use Rattle.basics.specs.Bytes.{bytes16, all_zero}
use Rattle.std.proofs.lemmas.Bool.{and_parts, false≢true}
use Rattle.basics.proofs.Tests.{known}
use Rattle.basics.proofs.Bytes.{zeros_zero}
use Rattle.cdtext.specs.Check.{check_of}
use Rattle.cdtext.specs.Titles.{titles_from, is_character, title_length}
use Rattle.cdtext.specs.Packs.{most_position, padded, pack, place_at, text_pack, text_packs, size_pack, size_packs, text_in, trimmed}
use Rattle.cdtext.proofs.packs.Sealing.{padded_length}
use Rattle.cdtext.proofs.packs.Steps.{put_more}

-- ---- lengths

twelve : (b : List ℕ) → length (take 12 b) ≤ 12
twelve b = omega (arith, length-take 12 b)

-- the bytes of a pack: four, the text, and two for a number that isn't looked into
pack_parts : (type track number position : ℕ) (text : List ℕ)
    → (c : ℕ) × (pack type track number position text ≡ (type ∷ track ∷ number ∷ position ∷ []) ++ (padded text ++ bytes16 c))
unfolding pack
pack_parts type track number position text = (check_of (type ∷ track ∷ number ∷ position ∷ padded text), refl)

pack_length : (type track number position : ℕ) (text : List ℕ) → length text ≤ 12 → length (pack type track number position text) ≡ 18
pack_length type track number position text h =
    let w = pack_parts type track number position text in
    ap length w.1 ∙ omega (arith, length-append (padded text) (bytes16 w.0), padded_length text h)

pub text_length : (run : List ℕ) (k : ℕ) → length (text_pack run k) ≡ 18
unfolding text_pack
text_length run k = pack_length 0x80 (place_at run k).track k (min (place_at run k).count most_position) (take 12 (drop (12 * k) run)) (twelve (drop (12 * k) run))

pub texts_length : (run : List ℕ) (k : ℕ) → length (text_packs run k) ≡ 18 * k
unfolding text_packs
texts_length run zero = refl
texts_length run (suc k) = omega (arith, length-append (text_packs run k) (text_pack run k), texts_length run k, text_length run k)

pub size_length : (sizes : List ℕ) (p i : ℕ) → length (size_pack sizes p i) ≡ 18
unfolding size_pack
size_length sizes p i = pack_length 0x8F i (p + i) 0 (take 12 (drop (12 * i) sizes)) (twelve (drop (12 * i) sizes))

pub sizes_length : (sizes : List ℕ) (p : ℕ) → length (size_packs sizes p) ≡ 54
sizes_length sizes p =
    let a : List ℕ = size_pack sizes p 0 in
    let b : List ℕ = size_pack sizes p 1 in
    let c : List ℕ = size_pack sizes p 2 in
    omega (arith, length-append (a ++ b) c, length-append a b, size_length sizes p 0, size_length sizes p 1, size_length sizes p 2)

-- the first i of the size packs
unfoldable pub sizes_up_to : List ℕ → ℕ → ℕ → List ℕ
sizes_up_to sizes p zero = []
sizes_up_to sizes p (suc i) = sizes_up_to sizes p i ++ size_pack sizes p i

sizes_up_to_length : (sizes : List ℕ) (p i : ℕ) → length (sizes_up_to sizes p i) ≡ 18 * i
unfolding sizes_up_to
sizes_up_to_length sizes p zero = refl
sizes_up_to_length sizes p (suc i) =
    omega (arith, length-append (sizes_up_to sizes p i) (size_pack sizes p i), sizes_up_to_length sizes p i, size_length sizes p i)

pub no_sizes : (sizes d : List ℕ) (p : ℕ) → d ≡ sizes_up_to sizes p 0 ++ d
unfolding sizes_up_to
no_sizes sizes d p = refl

pub all_sizes : (sizes s d out : List ℕ) (p i : ℕ) → i ≤ 3 → 3 ≤ i → sizes ≡ s → out ≡ sizes_up_to sizes p i ++ drop (18 * i) d → out ≡ size_packs s p ++ drop 54 d
unfolding sizes_up_to
all_sizes sizes s d out p i l m e eo =
    let n : i ≡ 3 = omega arith in
    eo ∙ rw (n, e)

-- one more of them, behind the others
pub more_sizes : (sizes d out out' q : List ℕ) (p i : ℕ) → out ≡ sizes_up_to sizes p i ++ drop (18 * i) d → q ≡ size_pack sizes p i → out' ≡ take (18 * i) out ++ q ++ drop (18 * i + 18) out
    → out' ≡ sizes_up_to sizes p (i + 1) ++ drop (18 * (i + 1)) d
unfolding sizes_up_to
more_sizes sizes d out out' q p i e eq eo =
    let n : 18 * i + 18 ≡ 18 * suc i = omega arith in
    put_more (sizes_up_to sizes p i) q d out out' (18 * i) 18 (sizes_up_to_length sizes p i) e eo ∙ rw (eq, n, add-one i)

-- ---- the text of packs

-- what stands behind k packs doesn't change their text
pub in_front : (k : ℕ) (b rest : List ℕ) → 18 * k ≤ length b → text_in k (b ++ rest) ≡ text_in k b
unfolding text_in
in_front zero b rest h = refl
in_front (suc k) b rest h =
    let d : 18 * k + 4 ≤ length b = omega arith in
    let t : 12 ≤ length (drop (18 * k + 4) b) = omega (arith, length-drop (18 * k + 4) b) in
    rw (in_front k b rest (omega arith), drop-append-le (18 * k + 4) b rest d, take-append-le 12 (drop (18 * k + 4) b) rest t)

pack_text : (type track number position : ℕ) (text : List ℕ) → length text ≤ 12 → take 12 (drop 4 (pack type track number position text)) ≡ padded text
pack_text type track number position text h =
    let w = pack_parts type track number position text in
    ap (λ (b : List ℕ). take 12 (drop 4 b)) w.1 ∙ take_at (padded text) (bytes16 w.0) 12 (padded_length text h)

-- the text of the k-th pack
abbrev piece : List ℕ → ℕ → List ℕ
piece run k = take 12 (drop (12 * k) run)

text_text : (run : List ℕ) (k : ℕ) → take 12 (drop 4 (text_pack run k)) ≡ padded (piece run k)
unfolding text_pack
text_text run k = pack_text 0x80 (place_at run k).track k (min (place_at run k).count most_position) (piece run k) (twelve (drop (12 * k) run))

text_next : (run : List ℕ) (k : ℕ) → text_in (suc k) (text_packs run (suc k)) ≡ text_in k (text_packs run k) ++ padded (piece run k)
unfolding text_in text_packs
text_next run k =
    let a : List ℕ = text_packs run k in
    let b : List ℕ = text_pack run k in
    let n : length a ≡ 18 * k = texts_length run k in
    let d : drop (18 * k + 4) (a ++ b) ≡ drop 4 b = sym (drop-drop 4 (18 * k) (a ++ b)) ∙ ap (drop 4) (drop_at a b (18 * k) n) in
    rw (in_front k a b (omega arith), d, text_text run k)

-- k packs bear the first 12 * k bytes, and zeros where the run has fewer
texts : (run : List ℕ) (k : ℕ) → 12 * k ≤ length run + 11 → text_in k (text_packs run k) ≡ take (12 * k) run ++ replicate (12 * k - length run) 0
unfolding text_in
texts run zero h = let e : 12 * 0 - length run ≡ 0 = omega arith in rw e
texts run (suc k) h =
    let none : 12 * k - length run ≡ 0 = omega arith in
    let n : 12 * k + 12 ≡ 12 * suc k = omega arith in
    let z : 12 - length (piece run k) ≡ 12 * suc k - length run = omega (arith, length-take 12 (drop (12 * k) run), length-drop (12 * k) run) in
    let i : text_in k (text_packs run k) ≡ take (12 * k) run =
    texts run k (omega arith) ∙ ap (λ (j : ℕ). take (12 * k) run ++ replicate j 0) none ∙ append-nil (take (12 * k) run) in
    text_next run k ∙ rw (i, z, ← append_assoc (take (12 * k) run) (piece run k) (replicate (12 * suc k - length run) 0), ← take-add (12 * k) 12 run, n)

-- all packs of a run bear it whole
pub whole : (run : List ℕ) (k : ℕ) → 12 * k ≤ length run + 11 → length run ≤ 12 * k → text_in k (text_packs run k) ≡ run ++ replicate (12 * k - length run) 0
whole run k h l = texts run k h ∙ rw (take_all (12 * k) run l)

-- ---- the zeros behind a run

-- a character stays, and so does what stands before it
stays : (x : ℕ) (xs : List ℕ) → eqb x 0 ≡ false → trimmed (x ∷ xs) ≡ x ∷ trimmed xs
unfolding trimmed all_zero
stays x xs e = rw e

stays_before : (x y : ℕ) (ys : List ℕ) → eqb y 0 ≡ false → trimmed (x ∷ y ∷ ys) ≡ x ∷ trimmed (y ∷ ys)
unfolding trimmed all_zero
stays_before x y ys e = known (eqb x 0) (λ z. rw (z, e)) (λ z. rw z)

-- a title begins with a character
begins : (y : ℕ) (ys : List ℕ) → titles_from 0 (y ∷ ys) ≡ true → eqb y 0 ≡ false
unfolding titles_from
begins y ys h = known (eqb y 0) (λ e. absurd (false≢true (rw e at h))) (λ e. e)

last : (x n : ℕ) → eqb x 0 ≡ true → trimmed (x ∷ replicate n 0) ++ 0 ∷ [] ≡ x ∷ []
unfolding trimmed all_zero
last x n e = rw (e, zeros_zero n, eqb-true x 0 e)

-- a run of titles, with zeros behind it: without the zeros at the end it is the run but for its last one
pub trims : (xs : List ℕ) (c x n : ℕ) → titles_from c (x ∷ xs) ≡ true → trimmed ((x ∷ xs) ++ replicate n 0) ++ 0 ∷ [] ≡ x ∷ xs
unfolding titles_from
trims [] c x n h = known (eqb x 0)
    (λ e. last x n e)
    (λ e.
    let w = and_parts (is_character x) (eqb (c + 1) 0) (rw e at h) in
    absurd (omega (arith, eqb-true (c + 1) 0 w.1)))
trims (y ∷ ys) c x n h = known (eqb x 0)
    (λ e.
    let w = and_parts (title_length c) (titles_from 0 (y ∷ ys)) (rw e at h) in
    rw (stays_before x y (ys ++ replicate n 0) (begins y ys w.1), trims ys 0 y n w.1))
    (λ e.
    let w = and_parts (is_character x) (titles_from (c + 1) (y ∷ ys)) (rw e at h) in
    rw (stays x (y ∷ ys ++ replicate n 0) e, trims ys (c + 1) y n w.1))
