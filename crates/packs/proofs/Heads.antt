-- Facts on requests that the proofs share: what the tests of their bytes tell.
use mathlib.Core.Path.{◌≡◌, ap, sym, ◌∙◌}
use mathlib.Core.Bool.{true, false, ◌&&◌}
use mathlib.Core.List.{List, [], ◌∷◌}
use Prim.Native.Nat.{ℕ, ◌-◌, ◌≤◌, ◌<◌}
use native.Mathlib.Omega.{arith}
use lib.ListN.{length, get_or, take, drop, replicate, length-drop}
use lib.Seq.{take_all}
use lib.Dec.{eqb, leb}
use borrow.Author.Tests.{eqb-true, eqb-false, leb-true, le-leb, eq-eqb, ne_eqb}
use Rattle.std.specs.Prelude.{Ok, Err}
use Rattle.basics.specs.Bytes.{be16}
use Rattle.std.proofs.lemmas.Bool.{and_parts}
use Rattle.basics.proofs.Tests.{known}
use Rattle.packs.specs.Answers.{answer_to}
use Rattle.packs.specs.Requests.{Numbers, most_room, most_size, number_of, listed, Says, request_of, is_served, is_head, is_request, next_length, answered}
use Rattle.packs.specs.declared.Operation.{Operation}
use Rattle.packs.specs.declared.Operation.TheVariants.{Make, Read, Check}
use Rattle.packs.specs.declared.Request.{Request}

-- what is known of a request that is answered
pub record Limits (r : Numbers) : Type 0 where
  pub least : 1 ≤ r.operation
  pub most : r.operation ≤ 3
  pub room_most : r.room ≤ most_room
  pub size_most : r.size ≤ most_size

served : (r : Numbers) → is_served r ≡ true → Limits r
served r e =
    let s = and_parts (leb 1 r.operation && leb r.operation 3 && leb r.room most_room) (leb r.size most_size) e in
    let t = and_parts (leb 1 r.operation && leb r.operation 3) (leb r.room most_room) s.0 in
    let o = and_parts (leb 1 r.operation) (leb r.operation 3) t.0 in
    record { least = leb-true _ _ o.0; most = leb-true _ _ o.1; room_most = leb-true _ _ t.1; size_most = leb-true _ _ s.1 }

pub five : (head : List ℕ) → is_head head ≡ true → length head ≡ 5
unfolding is_head
five head e = eqb-true _ _ (and_parts (eqb (length head) 5) (is_served (request_of head)) e).0

-- ---- what is held of a head

in_range : (o : Operation) → (1 ≤ number_of o) × (number_of o ≤ 3)
in_range Make = (omega arith, omega arith)
in_range Read = (omega arith, omega arith)
in_range Check = (omega arith, omega arith)

is_number : (n : ℕ) (o : Operation) → listed n ≡ Ok o → n ≡ number_of o
is_number n o e =
    known (eqb n 1) (λ t. let x : Ok Make ≡ Ok o = rw t at e in let y : Make ≡ o = cc in eqb-true n 1 t ∙ ap number_of y)
    (λ f. known (eqb n 2) (λ t. let x : Ok Read ≡ Ok o = rw (f, t) at e in let y : Read ≡ o = cc in eqb-true n 2 t ∙ ap number_of y)
    (λ g. known (eqb n 3) (λ t. let x : Ok Check ≡ Ok o = rw (f, g, t) at e in let y : Check ≡ o = cc in eqb-true n 3 t ∙ ap number_of y)
    (λ h. let x : Err tt ≡ Ok o = rw (f, g, h) at e in absurd cc)))

no_number : (n : ℕ) (u : Unit {0}) → listed n ≡ Err u → 1 ≤ n → n ≤ 3 → ⊥
no_number n u e l m =
    known (eqb n 1) (λ t. let x : Ok Make ≡ Err u = rw t at e in cc)
    (λ f. known (eqb n 2) (λ t. let x : Ok Read ≡ Err u = rw (f, t) at e in cc)
    (λ g. known (eqb n 3) (λ t. let x : Ok Check ≡ Err u = rw (f, g, t) at e in cc)
    (λ h. omega (arith, eqb-false n 1 f, eqb-false n 2 g, eqb-false n 3 h))))

-- five bytes, read from the first, the second and the fourth on
module _ (head : List ℕ) (room size : ℕ) (l : length head ≡ 5) (a : room ≡ be16 (take (length head - 1) (drop 1 head))) (b : size ≡ be16 (take (length head - 3) (drop 3 head))) where
  numbers : request_of head ≡ record { operation = get_or head 0 0; room = room; size = size }
  numbers =
      let one : length (drop 1 head) ≤ length head - 1 = omega (arith, length-drop 1 head) in
      let three : length (drop 3 head) ≤ length head - 3 = omega (arith, length-drop 3 head) in
      sym (rw (a, b, take_all (length head - 1) (drop 1 head) one, take_all (length head - 3) (drop 3 head) three))

  pub held : (o : Operation) → Ok o ≡ listed (get_or head 0 0) → room ≤ most_room → size ≤ most_size → (is_head head ≡ true) × (request_of head ≡ record { operation = number_of o; room = room; size = size })
  unfolding is_head
  held o e h k =
      let n : get_or head 0 0 ≡ number_of o = is_number _ o (sym e) in
      let q : request_of head ≡ record { operation = number_of o; room = room; size = size } = numbers ∙ ap (λ (m : ℕ). record { operation = m; room = room; size = size }) n in
      let i = in_range o in
      (rw (eq-eqb (length head) 5 l) (ap is_served q ∙ rw (le-leb 1 (number_of o) i.0, le-leb (number_of o) 3 i.1, le-leb room most_room h, le-leb size most_size k)), q)

  none : (1 ≤ get_or head 0 0 → get_or head 0 0 ≤ 3 → room ≤ most_room → size ≤ most_size → ⊥) → is_head head ≡ false
  unfolding is_head
  none n =
      known (is_served (request_of head))
      (λ t. let v = served (record { operation = get_or head 0 0; room = room; size = size }) (ap is_served (sym numbers) ∙ t) in absurd (n v.least v.most v.room_most v.size_most))
      (λ f. rw (eq-eqb (length head) 5 l, f))

  pub no_room : most_room < room → is_head head ≡ false
  no_room h = none (λ i j k m. omega arith)

  pub no_size : most_size < size → is_head head ≡ false
  no_size h = none (λ i j k m. omega arith)

  pub no_operation : (u : Unit {0}) → Err u ≡ listed (get_or head 0 0) → is_head head ≡ false
  no_operation u e = none (λ i j k m. no_number _ u (sym e) i j)

pub not_five : (head : List ℕ) → (length head ≡ 5 → ⊥) → is_head head ≡ false
unfolding is_head
not_five head n = rw (ne_eqb (length head) 5 n)

-- the limits of a request that is held
pub limits : (head : List ℕ) (r : Request) → Says head r → (r.room ≤ most_room) × (r.size ≤ most_size)
unfolding is_head
limits head r s =
    let v = served (request_of head) (and_parts (eqb (length head) 5) (is_served (request_of head)) s.0).1 in
    let w = v.room_most in
    let x = v.size_most in
    (omega (arith, ap (λ (n : Numbers). n.room) s.1), omega (arith, ap (λ (n : Numbers). n.size) s.1))

-- after a head comes its payload
pub payload_next : (head : List ℕ) (r : Request) → Says head r → next_length head ≡ r.size
payload_next [] r s = absurd (omega (arith, five [] s.0))
payload_next (b ∷ bs) r s = ap (λ (n : Numbers). n.size) s.1

-- a payload that is as long as its head says, and one that is not
pub whole : (head payload : List ℕ) (r : Request) → Says head r → length payload ≡ r.size → is_request head payload ≡ true
unfolding is_request
whole head payload r s l = rw (s.0, eq-eqb (length payload) (request_of head).size (l ∙ sym (ap (λ (n : Numbers). n.size) s.1)))

pub unlike : (head payload : List ℕ) (r : Request) → Says head r → (length payload ≡ r.size → ⊥) → is_request head payload ≡ false
unfolding is_request
unlike head payload r s n = rw (s.0, ne_eqb (length payload) (request_of head).size (λ l. n (l ∙ ap (λ (m : Numbers). m.size) s.1)))

-- no request without a head
pub headless : (head payload : List ℕ) → is_head head ≡ false → is_request head payload ≡ false
unfolding is_request
headless head payload e = rw e

-- the answer, by what the head says
pub answer_said : (head payload bytes : List ℕ) (r : Request) → Says head r → bytes ≡ answer_to (number_of r.operation) payload (replicate r.room 165) → bytes ≡ answered head payload
unfolding answered
answer_said head payload bytes r s e = e ∙ ap (λ (n : Numbers). answer_to n.operation payload (replicate n.room 165)) (sym s.1)
