-- Lines behind a text, and the blocks of an input.
use mathlib.Core.Path.{◌≡◌, refl, sym, ap, ◌∙◌}
use mathlib.Core.Bool.{Bool, true, false}
use mathlib.Core.List.{List, [], ◌∷◌, ◌++◌, append_assoc, append-nil}
use mathlib.Core.Logic.{⊎_elim}
use Prim.Native.Nat.{ℕ, zero, suc, ◌+◌, ◌-◌, ◌*◌, ◌/◌, ◌%◌, ◌≤◌, ◌<◌, min}
use native.Mathlib.Nat.{min-eq_left, min-eq_right}
use native.Mathlib.Decide.{dec_le}
use native.Mathlib.Omega.{arith}
use borrow.Author.Tests.{le-leb}
use lib.ListN.{length, take, drop, length-append, length-drop, drop_of_length-le}
use lib.Seq.{length-take-le, take_all, take_at, take-append-le, drop-append-le}
use Rattle.std.proofs.Math.Seq.{drop-append_seam}
use Rattle.std.proofs.lemmas.List.{take-append-drop, length-take}
use Rattle.std.specs.Prelude.{Result, Ok, Err}
use Rattle.std.specs.Result.{result_unwrap_or}
use Rattle.basics.specs.Bytes.{if}
use Rattle.mmc.specs.Refusals.{pass, outcome_of, answer_of, buffer_of}
use Rattle.mmc.specs.declared.refusals.Refusal.{Refusal}
use Rattle.recorder.specs.Job.{take_of}
use Rattle.recorder.specs.declared.job.Recorder.{Recorder}
use Rattle.lines.specs.Lines.{longest, Writes}
use Rattle.print.specs.Run.{Stage, answered_of, replied_to, cut, input_blocks, fed, begun_with, waiting_for, ending}
use Rattle.print.specs.Run.{printed, awaiting, read_on, following, stage_in, room_for, Reaches, Begins, GoesOn}
use Rattle.print.specs.declared.run.Run.{Run}

-- ---- lines

counted : (n : ℕ) (r : Result ℕ Refusal) → outcome_of r ≡ pass n → result_unwrap_or r 0 ≡ n
counted n (Ok k) e = cc
counted n (Err x) e = let z : ◌≡◌ {A = ℕ} 0 1 = cc in absurd (omega arith)

-- a line goes whole into a buffer of 64 bytes
pub wrote :
    {line before after : List ℕ} (r : Result ℕ Refusal) → Writes longest line r before after → 64 ≤ length before →
    (result_unwrap_or r 0 ≡ length line) × (after ≡ line ++ drop (length line) before)
unfolding answer_of buffer_of
wrote {line} {before} {after} r w h =
    let l = le-leb (length line) (length before) (omega (arith, w.short)) in
    (counted (length line) r (w.filled.answer ∙ simp l), w.filled.buffer ∙ simp l)

-- the part of a buffer behind the text
abbrev pub behind_text : List ℕ → ℕ → List ℕ
behind_text text u = take (length text - u) (drop u text)

-- a line goes into it
goes_in :
    (text : List ℕ) (u : ℕ) {part line : List ℕ} (r : Result ℕ Refusal) → u + 64 ≤ length text →
    Writes longest line r (behind_text text u) part →
    (result_unwrap_or r 0 ≡ length line) × (part ≡ line ++ drop (length line) (behind_text text u))
goes_in text u r h w =
    let k = length-take-le (length text - u) (drop u text) (omega (arith, length-drop u text)) in
    wrote r w (omega arith)

pub few :
    (text : List ℕ) (u : ℕ) {part line : List ℕ} (r : Result ℕ Refusal) → u + 64 ≤ length text →
    Writes longest line r (behind_text text u) part → result_unwrap_or r 0 ≤ 64
few text u r h w = omega (arith, (goes_in text u r h w).0, w.short)

pub added :
    (text : List ℕ) (u : ℕ) {part line : List ℕ} (r : Result ℕ Refusal) (more : List ℕ) → u + 64 ≤ length text →
    Writes longest line r (behind_text text u) part →
    take (u + result_unwrap_or r 0) (take u text ++ (part ++ more)) ≡ take u text ++ line
added text u {part} {line} r more h w =
    let e = goes_in text u r h w in
    let rest = drop (length line) (behind_text text u) in
    let k = length-take-le u text (omega arith) in
    let l = length-append (take u text) line in
    let n : length (take u text ++ line) ≡ u + result_unwrap_or r 0 = omega (arith, l, k, e.0) in
    let q : take u text ++ (part ++ more) ≡ (take u text ++ line) ++ (rest ++ more) = rw e.1 (simp append_assoc) in
    rw q (take_at (take u text ++ line) (rest ++ more) (u + result_unwrap_or r 0) n)

-- two stages of one state
pub stage_of : (s : Recorder) {a b : Bool} {x y : List ℕ} → a ≡ b → x ≡ y → ◌≡◌ {A = Stage} (record { state = s; waiting = a; text = x }) (record { state = s; waiting = b; text = y })
stage_of s e f = rw (e, f)

-- ---- blocks

enough : (k m : ℕ) (s : List ℕ) → length s ≤ k → length s ≤ m → cut k s ≡ cut m s
unfolding cut
enough zero zero s h i = refl
enough zero (suc m) [] h i = refl
enough zero (suc m) (x ∷ s) h i = absurd (omega arith)
enough (suc k) zero [] h i = refl
enough (suc k) zero (x ∷ s) h i = absurd (omega arith)
enough (suc k) (suc m) [] h i = refl
enough (suc k) (suc m) (x ∷ s) h i =
    let l = length-drop 512 (x ∷ s) in
    ap (λ (bs : List (List ℕ)). take 512 (x ∷ s) ∷ bs) (enough k m (drop 512 (x ∷ s)) (omega arith) (omega arith))

-- an input that is not empty has a first block, and the blocks of what is left
pub blocks_next : (s : List ℕ) → 0 < length s → input_blocks s ≡ take 512 s ∷ input_blocks (drop 512 s)
unfolding input_blocks cut
blocks_next [] h = absurd (omega arith)
blocks_next (x ∷ s) h =
    let l = length-drop 512 (x ∷ s) in
    ap (λ (bs : List (List ℕ)). take 512 (x ∷ s) ∷ bs) (enough (length s) (length (drop 512 (x ∷ s))) (drop 512 (x ∷ s)) (omega arith) (omega arith))

-- the room for the line of the first block, and for those behind it
pub room_next : (n m : ℕ) → 0 < n → m ≡ n - min 512 n → room_for m + 64 ≡ room_for n
room_next n m h e = of (dec_le 512 n)
  where
    of : Dec (512 ≤ n) → room_for m + 64 ≡ room_for n
    of (yes k) = let q = min-eq_left k in omega arith
    of (no k) =
        let j : n ≤ 512 = omega arith in
        let q = min-eq_right j in
        omega arith

none_of : (t : List ℕ) → length t ≡ 0 → t ≡ []
none_of [] e = refl
none_of (x ∷ t) e = absurd (omega arith)

-- a piece that comes off the front of an input and is short only where less is left is its first block
pub first_block : (s b t : List ℕ) → s ≡ b ++ t → length b ≡ min 512 (length s) → (b ≡ take 512 s) × (t ≡ drop 512 s)
first_block s b t e n = of (dec_le 512 (length s))
  where
    of : Dec (512 ≤ length s) → (b ≡ take 512 s) × (t ≡ drop 512 s)
    of (yes h) =
        let q = min-eq_left h in
        let k : length b ≡ 512 = omega arith in
        (sym (ap (take 512) e ∙ take_at b t 512 k), sym (ap (drop 512) e ∙ rw (← k) (drop-append_seam b t)))
    of (no h) =
        let j : length s ≤ 512 = omega arith in
        let q = min-eq_right j in
        let z : length t ≡ 0 = omega (arith, length-append b t, ap length e) in
        let f : s ≡ b = e ∙ ap (λ (x : List ℕ). b ++ x) (none_of t z) ∙ append-nil b in
        (sym (take_all 512 s j ∙ f), none_of t z ∙ sym (drop_of_length-le s j))

-- ---- a run over blocks

pub fed_next : (g : Stage) (b : List ℕ) (bs : List (List ℕ)) → g.waiting ≡ true → fed g (b ∷ bs) ≡ fed (replied_to g b) bs
unfolding fed
fed_next g b bs e = simp e

pub fed_ended : (g : Stage) (bs : List (List ℕ)) → g.waiting ≡ false → fed g bs ≡ g
unfolding fed
fed_ended g [] e = refl
fed_ended g (b ∷ bs) e = simp e

-- the first block, and the blocks behind it
pub fed_step :
    (g h : Stage) (s b t : List ℕ) → 0 < length s → s ≡ b ++ t → length b ≡ min 512 (length s) →
    g.waiting ≡ true → h ≡ replied_to g b → fed h (input_blocks t) ≡ fed g (input_blocks s)
fed_step g h s b t l e n w q =
    let k = first_block s b t e n in
    ap (λ (x : Stage). fed x (input_blocks t)) (q ∙ ap (replied_to g) k.0)
    ∙ ap (λ (x : List ℕ). fed (replied_to g (take 512 s)) (input_blocks x)) k.1
    ∙ sym (fed_next g (take 512 s) (input_blocks (drop 512 s)) w)
    ∙ ap (fed g) (sym (blocks_next s l))

-- no block is left
pub fed_all : (g : Stage) (s : List ℕ) → length s ≡ 0 → fed g (input_blocks s) ≡ g
unfolding fed input_blocks cut
fed_all g s h = ap (λ (t : List ℕ). fed g (input_blocks t)) (none_of s h)

-- the order block, and the reply blocks behind it
pub begun :
    (s b t : List ℕ) (n : ℕ) (g : Stage) → n ≡ min (length s) 512 → b ≡ take n s → t ≡ drop n s →
    g ≡ answered_of (take_of b) [] → fed g (input_blocks t) ≡ begun_with s
unfolding begun_with
begun s b t n g p e f q =
    let m : min n (length s) ≡ min 512 (length s) = omega arith in
    let k = first_block s b t (rw (e, f) (sym (take-append-drop n s))) (ap length e ∙ length-take n s ∙ m) in
    ap (λ (x : Stage). fed x (input_blocks t)) (q ∙ ap (λ (x : List ℕ). answered_of (take_of x) []) k.0)
    ∙ ap (λ (x : List ℕ). fed (answered_of (take_of (take 512 s)) []) (input_blocks x)) k.1

-- ---- one read after another

-- where a run stands once its text is written out, and with a text written before
abbrev cleared : Stage → Stage
cleared g = record { state = g.state; waiting = g.waiting; text = [] }

abbrev behind : List ℕ → Stage → Stage
behind text g = record { state = g.state; waiting = g.waiting; text = text ++ g.text }

blocks_append : (m : ℕ) (s t : List ℕ) → length s ≡ 512 * m → input_blocks (s ++ t) ≡ input_blocks s ++ input_blocks t
unfolding input_blocks cut
blocks_append zero [] t e = refl
blocks_append zero (x ∷ s) t e = absurd (omega arith)
blocks_append (suc m) s t e =
    let h : 512 ≤ length s = omega arith in
    let n : length (drop 512 s) ≡ 512 * m = omega (arith, length-drop 512 s) in
    let p : 0 < length (s ++ t) = omega (arith, length-append s t) in
    blocks_next (s ++ t) p
    ∙ rw (take-append-le 512 s t h, drop-append-le 512 s t h) (ap (λ (bs : List (List ℕ)). take 512 s ∷ bs) (blocks_append m (drop 512 s) t n))
    ∙ ap (λ (bs : List (List ℕ)). bs ++ input_blocks t) (sym (blocks_next s (omega arith)))

-- a test is true or false
known {ℓ} : {X : Type ℓ} (b : Bool) → (b ≡ true → X) → (b ≡ false → X) → X
known true f g = f refl
known false f g = g refl

fed_append : (g : Stage) (a b : List (List ℕ)) → fed g (a ++ b) ≡ fed (fed g a) b
unfolding fed
fed_append g [] b = refl
fed_append g (x ∷ a) b =
    known g.waiting
    (λ w. fed_next g x (a ++ b) w ∙ fed_append (replied_to g x) a b ∙ ap (λ (h : Stage). fed h b) (sym (fed_next g x a w)))
    (λ w. fed_ended g (x ∷ (a ++ b)) w ∙ sym (fed_ended g b w) ∙ ap (λ (h : Stage). fed h b) (sym (fed_ended g (x ∷ a) w)))

fed_behind : (text : List ℕ) (g : Stage) (bs : List (List ℕ)) → fed (behind text g) bs ≡ behind text (fed g bs)
unfolding fed
fed_behind text g [] = refl
fed_behind text g (b ∷ bs) =
    known g.waiting
    (λ w.
    fed_next (behind text g) b bs w
    ∙ ap (λ (h : Stage). fed h bs) (stage_of (replied_to g b).state refl (append_assoc text g.text _))
    ∙ fed_behind text (replied_to g b) bs
    ∙ ap (behind text) (sym (fed_next g b bs w)))
    (λ w. fed_ended (behind text g) (b ∷ bs) w ∙ ap (behind text) (sym (fed_ended g (b ∷ bs) w)))

-- a run goes on behind its text as one whose text was written out
fed_cleared : (g : Stage) (bs : List (List ℕ)) → fed g bs ≡ behind g.text (fed (cleared g) bs)
fed_cleared g bs = ap (λ (h : Stage). fed h bs) (stage_of g.state refl (sym (append-nil g.text))) ∙ fed_behind g.text (cleared g) bs

fed_on : (g h : Stage) (s t : List ℕ) (m : ℕ) → h ≡ fed g (input_blocks s) → length s ≡ 512 * m → fed g (input_blocks (s ++ t)) ≡ behind h.text (fed (cleared h) (input_blocks t))
fed_on g h s t m q e =
    ap (fed g) (blocks_append m s t e)
    ∙ fed_append g (input_blocks s) (input_blocks t)
    ∙ ap (λ (x : Stage). fed x (input_blocks t)) (sym q)
    ∙ fed_cleared h (input_blocks t)

begun_on : (h : Stage) (s t : List ℕ) (m : ℕ) → h ≡ begun_with s → length s ≡ 512 * suc m → begun_with (s ++ t) ≡ behind h.text (fed (cleared h) (input_blocks t))
unfolding begun_with
begun_on h s t m q e =
    let k : 512 ≤ length s = omega arith in
    let n : length (drop 512 s) ≡ 512 * m = omega (arith, length-drop 512 s) in
    rw (take-append-le 512 s t k, drop-append-le 512 s t k) (fed_on (answered_of (take_of (take 512 s)) []) h (drop 512 s) t m q n)

-- the text of a run that goes on from a stage
goes_on_from : (h : Stage) (t : List ℕ) → ending (behind h.text (fed (cleared h) (input_blocks t))) ≡ h.text ++ if h.waiting (following h.state t) []
goes_on_from h t =
    append_assoc h.text (fed (cleared h) (input_blocks t)).text _
    ∙ ap (λ (x : List ℕ). h.text ++ x) (
    known h.waiting
    (λ w. rw w refl)
    (λ w. rw (w, fed_ended (record { state = h.state; waiting = false; text = [] }) (input_blocks t) refl) refl))

-- the text of a run whose input ends at a stage
ends_at : (h : Stage) (t : List ℕ) → t ≡ [] → ending h ≡ h.text ++ if h.waiting (following h.state t) []
unfolding fed input_blocks cut
ends_at h [] e = refl
ends_at h (x ∷ t) e = let z : ◌≡◌ {A = ℕ} 0 1 = cc in absurd (omega arith)

nothing_more : (s t : List ℕ) → t ≡ [] → s ++ t ≡ s
nothing_more s t e = ap (λ (x : List ℕ). s ++ x) e ∙ append-nil s

-- how many blocks a read of whole blocks brings
blocks_in : (s : List ℕ) → (0 < length s) × (length s % 512 ≡ 0) → length s ≡ 512 * suc (length s / 512 - 1)
blocks_in s h = omega arith

pub begins : (s : List ℕ) {most : ℕ} {r : Run} {after : List ℕ} → Reaches (begun_with s) most r after → Begins s most r after
begins s {r = r} {after = after} p =
    let h = stage_in r after in
    record {
      reaches = p;
      goes_on = λ t. ⊎_elim
          (λ b. ap ending (begun_on h s t (length s / 512 - 1) p.stage (blocks_in s b)) ∙ goes_on_from h t)
          (λ e. ap printed (nothing_more s t e) ∙ ap ending (sym p.stage) ∙ ends_at h t e);
    }

pub goes_on : (q : Recorder) (s : List ℕ) {most : ℕ} {r : Run} {after : List ℕ} → Reaches (read_on q s) most r after → GoesOn q s most r after
goes_on q [] {r = r} {after = after} p =
    record {
      reaches = p;
      goes_on = λ t. ⊎_elim
          (λ b. absurd (omega arith))
          (λ e. sym (ends_at (awaiting q) t e) ∙ sym (append-nil _) ∙ ap ending (sym p.stage) ∙ ends_at (stage_in r after) t e);
    }
goes_on q (x ∷ s) {r = r} {after = after} p =
    let h = stage_in r after in
    record {
      reaches = p;
      goes_on = λ t. ⊎_elim
          (λ b. ap ending (fed_on (awaiting q) h (x ∷ s) t (suc (length (x ∷ s) / 512 - 1)) p.stage (blocks_in (x ∷ s) b)) ∙ goes_on_from h t)
          (λ e. ap (following q) (nothing_more (x ∷ s) t e) ∙ ap ending (sym p.stage) ∙ ends_at h t e);
    }

-- a later read of no bytes, and one of some
pub read_none : (q : Recorder) (s : List ℕ) → length s ≡ 0 → waiting_for q ≡ read_on q s
read_none q [] h = refl
read_none q (x ∷ s) h = absurd (omega arith)

pub read_some : (r : Run) (text s : List ℕ) → r.waiting ≡ true → r.used ≡ 0 → 0 < length s → fed (stage_in r text) (input_blocks s) ≡ read_on r.state s
read_some r text [] w u h = absurd (omega arith)
read_some r text (x ∷ s) w u h = ap (λ (g : Stage). fed g (input_blocks (x ∷ s))) (stage_of r.state w (ap (λ (k : ℕ). take k text) u))
