-- The reply block: what is written of a reply, and what a reader finds in 512 bytes.
use Rattle.std.specs.Prelude.{◌≡◌, ℕ, ◌+◌, ◌-◌, List, ◌∷◌, ◌++◌, Bool, true, false, ◌&&◌, Result, Ok, Err, length, get_or, take, drop, replicate, eqb, leb}
use Rattle.basics.specs.Bytes.{if, be16, bytes16, all_zero}
use Rattle.mmc.specs.Refusals.{Outcome, pass, refuse, number_of, Fills}
use Rattle.mmc.specs.Block.{sealed, block_read}
use Rattle.mmc.specs.declared.reply_block.Reply as R
use Rattle.mmc.specs.declared.reply_block.Reply.TheVariants.{Good, Failed}
use Rattle.mmc.specs.declared.refusals.Refusal.{Refusal}

-- a good or failed mark with the drive's data
pub record Reply : Type 0 where
  pub good : Bool
  pub bytes : List ℕ

abbrev pub reply_of : Bool → List ℕ → Reply
reply_of good bytes = record { good = good; bytes = bytes }

-- "the data length, 0 to 506"
abbrev pub most_data : ℕ
most_data = 506

-- "status, 0 good or 1 failed"
abbrev pub status_byte : Bool → ℕ
status_byte true = 0
status_byte false = 1

-- "byte 0 is 2", status, data length, data from byte 4
unfoldable pub reply_head : Reply → List ℕ
reply_head x = 2 ∷ status_byte x.good ∷ bytes16 (length x.bytes) ++ x.bytes

-- bytes 0 to 509: that, and "zeros up to 509"
unfoldable pub reply_body : Reply → List ℕ
reply_body x = reply_head x ++ replicate (most_data - length x.bytes) 0

unfoldable pub reply_bytes : Reply → List ℕ
reply_bytes x = sealed (reply_body x)

-- the block of a reply: 3 for more data than a block holds
unfoldable pub reply_block : Reply → Outcome (List ℕ)
reply_block x = if (leb (length x.bytes) most_data) (pass (reply_bytes x)) (refuse 3)

-- bytes 2 and 3
abbrev pub data_length : List ℕ → ℕ
data_length b = be16 (drop 2 b)

-- every field has a listed value, and zeros stand behind the data up to byte 509
unfoldable pub reply_ok : List ℕ → Bool
reply_ok b =
    eqb (get_or b 0 0) 2
    && (leb (get_or b 1 0) 1
    && (leb (data_length b) most_data
    && all_zero (take (most_data - data_length b) (drop (4 + data_length b) b))))

-- the fields of a block
unfoldable pub reply_in : List ℕ → Reply
reply_in b = record { good = eqb (get_or b 1 0) 0; bytes = take (data_length b) (drop 4 b) }

-- the reply in a block
unfoldable pub read_reply : List ℕ → Outcome Reply
read_reply b = block_read b (reply_ok b) (reply_in b)

-- what the code's reply says: the mark, and the data that it holds
abbrev pub reply_said : R.Reply → Reply
reply_said (Good s) = record { good = true; bytes = s.now }
reply_said (Failed s) = record { good = false; bytes = s.now }

-- what a reader's answer says: the reply, or the number
abbrev pub reply_found : Result R.Reply Refusal → Outcome Reply
reply_found (Ok x) = pass (reply_said x)
reply_found (Err r) = refuse (number_of r)

-- what the writer promises: the block, and that it reads back to the reply
pub record WritesReply (x : Reply) (r : Result ℕ Refusal) (before after : List ℕ) : Type 0 where
  pub filled : Fills (reply_block x) r before after
  pub reads_back : (b : List ℕ) → reply_block x ≡ pass b → read_reply b ≡ pass x

-- what the reader promises: the reply, and that the block is the one that is written of it
pub record ReadsReply (b : List ℕ) (r : Result R.Reply Refusal) : Type 0 where
  pub answer : reply_found r ≡ read_reply b
  pub written : (x : Reply) → read_reply b ≡ pass x → reply_block x ≡ pass b
