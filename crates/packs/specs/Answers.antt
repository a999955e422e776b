-- The packs program: the bytes that it answers a request with.
use Rattle.std.specs.Prelude.{ℕ, ◌/◌, List, [], ◌∷◌, ◌++◌, Result, Ok, Err, eqb}
use Rattle.basics.specs.Bytes.{if, bytes16}
use Rattle.mmc.specs.Refusals.{Outcome, pass, refuse, answer_of, buffer_of}
use Rattle.cdtext.specs.Check.{check_of}
use Rattle.cdtext.specs.Packs.{packs, read_packs}
use Rattle.cdtext.specs.Refusals.{number_of}
use Rattle.cdtext.specs.declared.refusals.Refusal.{Refusal}

-- what has to go into the lent buffer: for operation 1 the packs of a run of titles, for operation 2 the run of titles of packs
abbrev pub work : ℕ → List ℕ → Outcome (List ℕ)
work op payload = if (eqb op 1) (packs payload) (read_packs payload)

-- how an answer tells of n bytes there: for operation 1 as packs of 18 bytes, for operation 2 as they are
abbrev pub amount_of : ℕ → ℕ → ℕ
amount_of op n = if (eqb op 1) (n / 18) n

-- the three bytes before the lent buffer: 0 and the amount, or the refusal's number and an amount of 0
unfoldable pub head_of : ℕ → Outcome ℕ → List ℕ
head_of op (pass n) = 0 ∷ bytes16 (amount_of op n)
head_of op (refuse r) = r ∷ 0 ∷ 0 ∷ []

-- the answer to an operation on a payload, with the lent buffer as it was: operation 3 gives check bytes and leaves the buffer
unfoldable pub answer_to : ℕ → List ℕ → List ℕ → List ℕ
answer_to op payload lent = if (eqb op 3) (0 ∷ bytes16 (check_of payload) ++ lent) (head_of op (answer_of (work op payload) lent) ++ buffer_of (work op payload) lent)

-- the three bytes as the program holds them
abbrev pub bytes_of : Result ℕ Refusal → List ℕ
bytes_of (Ok amount) = 0 ∷ bytes16 amount
bytes_of (Err r) = number_of r ∷ 0 ∷ 0 ∷ []
