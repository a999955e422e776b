-- Document 01's print example and short inputs, as one statement about the definitions.
use Rattle.std.specs.Prelude.{◌≡◌, true, false, List, [], ◌∷◌, ◌++◌, ℕ, take, replicate}
use Rattle.mmc.specs.OrderBlock.{order_bytes}
use Rattle.mmc.specs.ReplyBlock.{reply_of, reply_bytes}
use Rattle.mmc.specs.Bench.{one_data}
use Rattle.ascii.specs.Text.{codes}
use Rattle.print.specs.Run.{printed}

-- "that first order"
abbrev pub order : List ℕ
order = order_bytes (one_data 300)

-- a good reply with its data
abbrev pub good : List ℕ → List ℕ
good d = reply_bytes (reply_of true d)

-- a failed reply with its sense data: response code, key, ASC, ASCQ
abbrev pub failed : ℕ → ℕ → ℕ → ℕ → List ℕ
failed c k a q = reply_bytes (reply_of false (c ∷ 0 ∷ k ∷ replicate 9 0 ++ a ∷ q ∷ []))

pub record ExampleTexts : Type 0 where
  -- "Print, that first order with good replies: profile 0009h; finalized; 52h well formed, no damage"
  pub finalized : printed (order ++ good (0 ∷ 0 ∷ 0 ∷ 4 ∷ 0 ∷ 0 ∷ 0 ∷ 9 ∷ []) ++ good (0 ∷ 32 ∷ 2 ∷ replicate 31 0) ++ good (0 ∷ 26 ∷ replicate 26 0))
      ≡ codes "46 00 00 00 00 00 00 00 08 00\n51 00 00 00 00 00 00 00 22 00\n52 01 00 00 00 FF 00 00 30 00\nstop 6 3\n"
  -- no order, and a short one
  pub none : printed [] ≡ codes "stop 1 0\n"
  pub short : printed (take 511 order) ≡ codes "stop 1 0\n"
  -- replies run out, and a piece of a block
  pub waits : printed order ≡ codes "46 00 00 00 00 00 00 00 08 00\nwaiting 1\n"
  pub piece : printed (order ++ 2 ∷ []) ≡ codes "46 00 00 00 00 00 00 00 08 00\nstop 1 1\n"
  -- an order where a reply is awaited, and a reply where an order is
  pub two_orders : printed (order ++ order) ≡ codes "46 00 00 00 00 00 00 00 08 00\nstop 3 1\n"
  pub no_order : printed (good []) ≡ codes "stop 3 0\n"
  -- a busy drive that then fails
  pub busy : printed (order ++ failed 0x70 0x02 0x04 0x08 ++ failed 0x71 0x03 0x0C 0x00)
      ≡ codes "46 00 00 00 00 00 00 00 08 00\n46 00 00 00 00 00 00 00 08 00\nstop 12 2 03 0C 00\n"
