-- The 512-byte blocks: "Bytes 510 and 511 hold the sum of bytes 0 to 509 modulo 65,536, high byte first."
use Rattle.std.specs.Prelude.{ℕ, ◌%◌, List, ◌++◌, Bool, length, take, drop, eqb}
use Rattle.basics.specs.Bytes.{if, sum_of, be16, bytes16}
use Rattle.mmc.specs.Refusals.{Outcome, pass, refuse}

-- the check of bytes 0 to 509
unfoldable pub check_sum : List ℕ → ℕ
check_sum body = sum_of body % 65536

-- a block: bytes 0 to 509, and their check
unfoldable pub sealed : List ℕ → List ℕ
sealed body = body ++ bytes16 (check_sum body)

-- 1: not 512 bytes long; 2: its check differs; 0: neither
unfoldable pub block_fault : List ℕ → ℕ
block_fault b = if (eqb (length b) 512) (if (eqb (be16 (drop 510 b)) (check_sum (take 510 b))) 0 2) 1

-- what a reader finds: 1 or 2, then 3 where a field has a value that is not listed, else the fields
unfoldable pub block_read : {A : Type 0} → List ℕ → Bool → A → Outcome A
block_read b listed fields = if (eqb (block_fault b) 0) (if listed (pass fields) (refuse 3)) (refuse (block_fault b))
