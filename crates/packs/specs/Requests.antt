-- The packs program: what the bytes of a request mean. A head of five bytes stands before the payload.
use Rattle.std.specs.Prelude.{◌≡◌, ℕ, Bool, true, ◌&&◌, List, [], ◌∷◌, Result, Ok, Err, length, get_or, drop, replicate, eqb, leb}
use Rattle.basics.specs.Bytes.{if, be16}
use Rattle.packs.specs.Answers.{answer_to}
use Rattle.packs.specs.declared.Operation.{Operation}
use Rattle.packs.specs.declared.Operation.TheVariants.{Make, Read, Check}
use Rattle.packs.specs.declared.Request.{Request}

-- the number of an operation
abbrev pub number_of : Operation → ℕ
number_of Make = 1
number_of Read = 2
number_of Check = 3

-- the operation of a number
abbrev pub listed : ℕ → Result Operation (Unit {0})
listed n = if (eqb n 1) (Ok Make) (if (eqb n 2) (Ok Read) (if (eqb n 3) (Ok Check) (Err tt)))

-- what a head says in numbers: the operation, then the length of the lent buffer and the length of the payload in two bytes each
pub record Numbers : Type 0 where
  pub operation : ℕ
  pub room : ℕ
  pub size : ℕ

abbrev pub request_of : List ℕ → Numbers
request_of head = record { operation = get_or head 0 0; room = be16 (drop 1 head); size = be16 (drop 3 head) }

-- the longest lent buffer and the longest payload
abbrev pub most_room : ℕ
most_room = 8192

abbrev pub most_size : ℕ
most_size = 32768

-- the requests that are answered: operations 1 to 3, within these lengths
abbrev pub is_served : Numbers → Bool
is_served r = leb 1 r.operation && leb r.operation 3 && leb r.room most_room && leb r.size most_size

-- which bytes are a head: five that say such a request
unfoldable pub is_head : List ℕ → Bool
is_head head = eqb (length head) 5 && is_served (request_of head)

-- what the program holds of a head: its numbers
abbrev pub Says : List ℕ → Request → Type 0
Says head r = (is_head head ≡ true) × (request_of head ≡ record { operation = number_of r.operation; room = r.room; size = r.size })

-- a whole request: a head, and a payload as long as it says
unfoldable pub is_request : List ℕ → List ℕ → Bool
is_request head payload = is_head head && eqb (length payload) (request_of head).size

-- how many bytes come next: where nothing came yet a head's five, and after a head its payload
abbrev pub next_length : List ℕ → ℕ
next_length [] = 5
next_length (b ∷ bs) = (request_of (b ∷ bs)).size

-- the answer to a request: the lent buffer is filled with A5h beforehand
unfoldable pub answered : List ℕ → List ℕ → List ℕ
answered head payload = answer_to (request_of head).operation payload (replicate (request_of head).room 0xA5)
