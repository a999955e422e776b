-- Facts on answers that the proofs share: the head, the bytes behind it, and the buffer that both stand in.
use mathlib.Core.Path.{◌≡◌, refl, ap, ◌∙◌}
use mathlib.Core.Bool.{Bool, true, false}
use mathlib.Core.List.{List, [], ◌∷◌, ◌++◌, append-nil}
use Prim.Native.Nat.{ℕ, suc, ◌-◌, ◌*◌, ◌≤◌}
use native.Mathlib.Omega.{arith}
use lib.ListN.{length, take, drop, replicate, drop_of_length-le}
use lib.Seq.{take_all}
use lib.Dec.{eqb, leb}
use borrow.Author.Tests.{leb-true}
use Rattle.std.specs.Prelude.{Result, Ok, Err}
use Rattle.basics.specs.Bytes.{if, bytes16}
use Rattle.mmc.specs.Refusals.{Outcome, pass, refuse, value_or, answer_of}
use Rattle.cdtext.specs.Check.{check_of}
use Rattle.cdtext.specs.Packs.{packs, read_packs, Fills}
use Rattle.cdtext.specs.declared.refusals.Refusal.{Refusal}
use Rattle.packs.specs.declared.Operation.{Operation}
use Rattle.packs.specs.declared.Operation.TheVariants.{Make, Read, Check}
use Rattle.packs.specs.Answers.{work, amount_of, head_of, answer_to, bytes_of}
use Rattle.packs.specs.Requests.{number_of, most_room}
use borrow.Rule.Slice.PartMut.{put_mid}

amount_at : (t : Bool) (b d : List ℕ) → leb (length b) (length d) ≡ t → value_or 0 (if t (pass (length b)) (refuse 11)) ≤ length d
amount_at true b d e = leb-true (length b) (length d) e
amount_at false b d e = omega arith

-- an answer tells of no more bytes than the lent buffer has
amount_fits : (o : Outcome (List ℕ)) (d : List ℕ) → value_or 0 (answer_of o d) ≤ length d
unfolding answer_of
amount_fits (pass b) d = amount_at (leb (length b) (length d)) b d refl
amount_fits (refuse r) d = omega arith

pub few : (size n : ℕ) (o : Outcome (List ℕ)) (d after : List ℕ) → Fills size o (Ok n) d after → length d ≤ most_room → size * n ≤ most_room
few size n o d after f h =
    let q : size * n ≡ value_or 0 (answer_of o d) = ap (value_or 0) f.answer in
    omega (arith, amount_fits o d)

-- the answer to operation 1 or 2, which tells of things of so many bytes
filled : (op size : ℕ) (payload d after : List ℕ) (x : Result ℕ Refusal) → eqb op 3 ≡ false → ((n : ℕ) → amount_of op (size * n) ≡ n) → Fills size (work op payload) x d after → bytes_of x ++ after ≡ answer_to op payload d
unfolding answer_to head_of
filled op size payload d after (Ok n) e a f = rw (e, ← f.answer, a n, f.buffer)
filled op size payload d after (Err r) e a f = rw (e, ← f.answer, f.buffer)

pub made : (o : Operation) (payload d after : List ℕ) (x : Result ℕ Refusal) → o ≡ Make → Fills 18 (packs payload) x d after → bytes_of x ++ after ≡ answer_to (number_of o) payload d
made o payload d after x e f = rw e (filled 1 18 payload d after x refl (λ n. omega arith) f)

pub read : (o : Operation) (payload d after : List ℕ) (x : Result ℕ Refusal) → o ≡ Read → Fills 1 (read_packs payload) x d after → bytes_of x ++ after ≡ answer_to (number_of o) payload d
read o payload d after x e f = rw e (filled 2 1 payload d after x refl (λ n. omega arith) f)

pub checked : (o : Operation) (k : ℕ) (payload d : List ℕ) → o ≡ Check → k ≡ check_of payload → 0 ∷ bytes16 k ++ d ≡ answer_to (number_of o) payload d
unfolding answer_to
checked o k payload d e h = rw (e, h)

-- the head over the first three bytes of a buffer, where all the others were lent
pub whole_answer : (xs ys payload h : List ℕ) (k op : ℕ) → 3 ≤ length xs → k ≡ length xs - 3 → h ++ ys ≡ answer_to op payload (take k (drop 3 xs)) → h ++ drop 3 (put_mid 3 k xs ys) ≡ answer_to op payload (drop 3 xs)
whole_answer [] ys payload h k op l ek e = absurd (omega arith)
whole_answer (a ∷ []) ys payload h k op l ek e = absurd (omega arith)
whole_answer (a ∷ b ∷ []) ys payload h k op l ek e = absurd (omega arith)
whole_answer (a ∷ b ∷ c ∷ t) ys payload h k op l ek e =
    let n : length t ≤ k = omega arith in
    ap (λ (z : List ℕ). h ++ (ys ++ z)) (drop_of_length-le t n) ∙ ap (λ (z : List ℕ). h ++ z) (append-nil ys) ∙ e ∙ ap (answer_to op payload) (take_all k t n)

-- the lent buffer behind the head, where all was cleared
pub cleared : (xs : List ℕ) (n x room : ℕ) → n ≡ suc (suc (suc room)) → xs ≡ replicate n x → drop 3 xs ≡ replicate room x
cleared xs n x room e q = ap (drop 3) (q ∙ ap (λ (k : ℕ). replicate k x) e)
