-- Document 01's "Sheets from the bench": those marked * as one list with one statement, the rest as another, and cases of document 02,
-- all about the definitions.
use Rattle.std.specs.Prelude.{◌≡◌, Bool, true, false, List, [], ◌∷◌, ◌++◌, map, ℕ, suc, ◌-◌, length, get_or, take, drop, replicate}
use Rattle.mmc.specs.Bench as Layouts
use Rattle.basics.specs.Bytes.{bytes32}
use Rattle.mmc.specs.Refusals.{pass}
use Rattle.mmc.specs.Order.{most_tracks, no_track}
use Rattle.mmc.specs.ReplyBlock.{Reply, reply_of}
use Rattle.mmc.specs.declared.order.Order.{Order}
use Rattle.mmc.specs.declared.order.Track.{Track}
use Rattle.mmc.specs.declared.order.Kind.{Kind}
use Rattle.mmc.specs.declared.order.Kind.TheVariants.{Audio, Data}
use Rattle.mmc.specs.declared.order.Method.{Method}
use Rattle.mmc.specs.declared.order.Method.TheVariants.{Tao, Sao}
use Rattle.mmc.specs.declared.order.Recipe.TheVariants.{Old, New}
use Rattle.recorder.specs.Answers.{drive_failed, done, number, bytes_of}
use Rattle.recorder.specs.declared.script.Op.{Op}
use Rattle.recorder.specs.declared.script.Op.TheVariants.{ModeSelect, SendCueSheet, SynchronizeCache, CloseTrack, CloseSession, Blank, TestUnitReady, RequestSense}
use Rattle.recorder.specs.Script.{script, closings, write as writing}
use Rattle.recorder.specs.Replies.{no_sense}
use Rattle.recorder.specs.Exchanges.{Exchange, progress, erased, unblank}
use Rattle.recorder.specs.Recipes.{under}
use Rattle.recorder.specs.Rules.{Found, none, found, refusal, ruled, play}
use Rattle.recorder.specs.declared.job.Poll.{Poll}
use Rattle.recorder.specs.declared.job.Poll.TheVariants.{Off, Ready, Sense}
use Rattle.recorder.specs.Job.{stands}

abbrev pub track : Kind → ℕ → Track
track k l = record { kind = k; length = record { 0 = l } }

abbrev pub order_of : Method → Bool → List Track → Order
order_of m keep ts = record { method = m; keep = keep; protect = false; immed = false; erase = false; recipe = Old; count = length ts; tracks = ts ++ replicate (most_tracks - length ts) no_track }

-- tracks of a kind and of these lengths
abbrev pub tracks : Kind → List ℕ → List Track
tracks k [] = []
tracks k (l ∷ ls) = track k l ∷ tracks k ls

-- "document 01's TAO cases are of data tracks"; those of SAO are of audio tracks
abbrev pub usual : Method → Kind
usual Tao = Data
usual Sao = Audio

abbrev pub order : Method → List ℕ → Order
order m ls = order_of m false (tracks (usual m) ls)

-- a good reply that is whole for 46h, 51h and 52h alike: a disc status, byte 5, the profile's low byte, whose bit 0 is NWA_V, an
-- address and free blocks
abbrev pub saying : ℕ → ℕ → ℕ → ℕ → ℕ → Reply
saying status five profile address free =
    reply_of true (0 ∷ 32 ∷ status ∷ 0 ∷ 0 ∷ five ∷ 0 ∷ profile ∷ 0 ∷ 0 ∷ 0 ∷ 0 ∷ (bytes32 address ++ bytes32 free ++ replicate 14 0))

-- of a CD-R, with an address and no damage
abbrev pub plain : ℕ → ℕ → ℕ → Reply
plain status address free = saying status 0 9 address free

abbrev pub number_in : Found → ℕ
number_in none = 0
number_in (found w) = number w

-- the first refusal with such a reply k times, and a last one; 0: none
abbrev pub after : ℕ → Order → Reply → Reply → ℕ
after k o y z = number_in (refusal (pass o) (play (pass o) [] (replicate k y ++ (z ∷ []))))

-- where such a reply answers each of the three commands that open a job
abbrev pub opened : Order → Reply → ℕ
opened o y = after 2 o y y

-- the bytes that the rules give after k such replies
abbrev pub bytes_after : ℕ → Order → Reply → List ℕ
bytes_after k o y = bytes_of o.immed o.count (ruled (pass o) (play (pass o) [] (replicate k y)))

-- a failed reply of so many bytes: a response code, a sense key's byte, an additional sense code and its qualifier
abbrev pub failed : ℕ → ℕ → ℕ → ℕ → ℕ → Reply
failed n code key asc ascq = reply_of false (take n (code ∷ 0 ∷ key ∷ (replicate 9 0 ++ (asc ∷ ascq ∷ []))))

-- the first refusal where a reply answers the first command
abbrev pub first : Reply → Found
first y = refusal (pass (order Tao (300 ∷ []))) (play (pass (order Tao (300 ∷ []))) [] (y ∷ []))

-- the same of a failed reply with sense 02h/04h/08h, by its number
abbrev pub failing : ℕ → ℕ → ℕ
failing code n = number_in (first (failed n code 0x02 0x04 0x08))

-- a good reply with another beginning, one of so many bytes
abbrev pub headed : List ℕ → Reply → Reply
headed h y = reply_of true (h ++ drop (length h) y.bytes)

abbrev pub cut : ℕ → Reply → Reply
cut n y = reply_of true (take n y.bytes)

-- and one of four more
abbrev pub longer : Reply → Reply
longer y = reply_of y.good (y.bytes ++ replicate 4 0)

-- the first refusal of a track at once of 300 blocks where so changed a reply follows k plain ones
abbrev pub changed : ℕ → (Reply → Reply) → ℕ
changed k g = after k (order Tao (300 ∷ [])) (plain 0 0 300) (g (plain 0 0 300))

-- whether a state at an operation and its polling, with the next block at a frame, passes the recorder's own test
abbrev pub passes_at : Order → Op → Poll → ℕ → Bool
passes_at o x p at = stands o (record { place = x; poll = p; seen = record { profile = 9; status = 0; at = record { 0 = at }; erased = false; ready = false; progress = 0 } })

abbrev pub passes : Order → Op → ℕ → Bool
passes o x at = passes_at o x Off at

-- ---- document 02: with flag bit 2

abbrev pub immediate : Order → Order
immediate o = record { method = o.method; keep = o.keep; protect = o.protect; immed = true; erase = o.erase; recipe = o.recipe; count = o.count; tracks = o.tracks }

-- the exchanges of a track at once of 300 blocks whose 35h is answered good, and then these replies
abbrev pub closing : List Reply → List Exchange
closing ys = play (pass (immediate (order Tao (300 ∷ [])))) [] (replicate 24 (plain 0 0 300) ++ ys)

-- the first byte of the command that is given then, and the first refusal; 0 if there is none
abbrev pub due : List Reply → ℕ
due ys = get_or (bytes_of true 1 (ruled (pass (immediate (order Tao (300 ∷ [])))) (closing ys))) 0 0xFF

abbrev pub refusing : List Reply → Found
refusing ys = refusal (pass (immediate (order Tao (300 ∷ [])))) (closing ys)

abbrev pub stopped : List Reply → ℕ
stopped ys = number_in (refusing ys)

-- a good reply without data; one of so many bytes of sense data whose bytes 15 to 17 are these; failed sense data 02h/04h
abbrev pub good : Reply
good = reply_of true []

abbrev pub sense : ℕ → ℕ → ℕ → ℕ → Reply
sense n fifteen sixteen seventeen = reply_of true (take n (replicate 15 0 ++ (fifteen ∷ sixteen ∷ seventeen ∷ [])))

abbrev pub unready : ℕ → ℕ → Reply
unready code ascq = failed 14 code 0x02 0x04 ascq

-- the bytes that are given in a track at once of twice 300 blocks, k replies after the second 52h is due
abbrev pub second : ℕ → List ℕ
second k = bytes_of true 2 (ruled (pass (immediate (order Tao (300 ∷ 300 ∷ [])))) (play (pass (immediate (order Tao (300 ∷ 300 ∷ [])))) [] (replicate 29 (plain 0 7 752) ++ replicate k (plain 0 308 617))))

pub record PollSheets : Type 0 where
  -- the second track's 35h and 5Bh have Immed and are polled too, and so is the 35h of a session at once
  pub each_track : second 21 ∷ take 1 (second 22) ∷ take 1 (second 23) ∷ second 24 ∷ take 1 (second 25) ∷ take 1 (second 26) ∷ take 3 (second 27) ∷ [] ≡ (0x35 ∷ 0x02 ∷ replicate 8 0) ∷ (0x00 ∷ []) ∷ (0x03 ∷ []) ∷ (0x5B ∷ 0x01 ∷ 1 ∷ 0 ∷ 0 ∷ 0xFF ∷ replicate 4 0) ∷ (0x00 ∷ []) ∷ (0x03 ∷ []) ∷ (0x5B ∷ 0x01 ∷ 2 ∷ []) ∷ []
  pub session :
      bytes_after 53 (immediate (order Sao (300 ∷ 300 ∷ []))) (plain 0 0 600)
      ∷ take 1 (bytes_after 54 (immediate (order Sao (300 ∷ 300 ∷ []))) (plain 0 0 600))
      ∷ take 1 (bytes_after 55 (immediate (order Sao (300 ∷ 300 ∷ []))) (plain 0 0 600))
      ∷ bytes_after 56 (immediate (order Sao (300 ∷ 300 ∷ []))) (plain 0 0 600)
      ∷ []
      ≡ (0x35 ∷ 0x02 ∷ replicate 8 0) ∷ (0x00 ∷ []) ∷ (0x03 ∷ []) ∷ [] ∷ []
  -- Immed in 35h and in both 5Bh; 00h and 03h after 35h; six more commands: "done comes after the last polling"
  pub commands :
      bytes_after 23 (immediate (order Tao (300 ∷ []))) (plain 0 0 300)
      ∷ bytes_after 24 (immediate (order Tao (300 ∷ []))) (plain 0 0 300)
      ∷ bytes_after 25 (immediate (order Tao (300 ∷ []))) (plain 0 0 300)
      ∷ bytes_after 26 (immediate (order Tao (300 ∷ []))) (plain 0 0 300)
      ∷ bytes_after 29 (immediate (order Tao (300 ∷ []))) (plain 0 0 300)
      ∷ bytes_after 31 (immediate (order Tao (300 ∷ []))) (plain 0 0 300)
      ∷ bytes_after 32 (immediate (order Tao (300 ∷ []))) (plain 0 0 300)
      ∷ []
      ≡ (0x35 ∷ 0x02 ∷ 0 ∷ 0 ∷ 0 ∷ 0 ∷ 0 ∷ 0 ∷ 0 ∷ 0 ∷ [])
      ∷ (0x00 ∷ 0 ∷ 0 ∷ 0 ∷ 0 ∷ 0 ∷ [])
      ∷ (0x03 ∷ 0 ∷ 0 ∷ 0 ∷ 0x12 ∷ 0 ∷ [])
      ∷ (0x5B ∷ 0x01 ∷ 1 ∷ 0 ∷ 0 ∷ 0xFF ∷ 0 ∷ 0 ∷ 0 ∷ 0 ∷ [])
      ∷ (0x5B ∷ 0x01 ∷ 2 ∷ 0 ∷ 0 ∷ 0 ∷ 0 ∷ 0 ∷ 0 ∷ 0 ∷ [])
      ∷ (0x03 ∷ 0 ∷ 0 ∷ 0 ∷ 0x12 ∷ 0 ∷ [])
      ∷ []
      ∷ []
  -- "fails with code 70h and 02h/04h, any ASCQ": the 03h follows, for 08h too, and by F0h
  pub any_qualifier : due (unready 0x70 0x00 ∷ []) ∷ due (unready 0x70 0x08 ∷ []) ∷ due (unready 0x70 0xFF ∷ []) ∷ due (unready 0xF0 0x07 ∷ []) ∷ due (longer (unready 0x70 0x04) ∷ []) ∷ [] ≡ replicate 5 0x03
  -- not by 71h, another code, another key or additional sense code, nor with 13 bytes: 12
  pub not_unready :
      stopped (unready 0x71 0x08 ∷ [])
      ∷ stopped (unready 0x72 0x08 ∷ [])
      ∷ stopped (failed 14 0x70 0x03 0x04 0x08 ∷ [])
      ∷ stopped (failed 14 0x70 0x01 0x04 0x08 ∷ [])
      ∷ stopped (failed 14 0x70 0x0A 0x04 0x08 ∷ [])
      ∷ stopped (failed 14 0x70 0x02 0x05 0x08 ∷ [])
      ∷ stopped (failed 14 0x70 0x02 0x03 0x08 ∷ [])
      ∷ stopped (failed 13 0x70 0x02 0x04 0x08 ∷ [])
      ∷ []
      ≡ replicate 8 12
  -- each with its triple, and so a 03h that fails
  pub triple_of_poll : refusing (unready 0x71 0x08 ∷ []) ∷ refusing (good ∷ unready 0x70 0x07 ∷ []) ∷ [] ≡ found (drive_failed (record { key = 2; asc = 4; ascq = 8 })) ∷ found (drive_failed (record { key = 2; asc = 4; ascq = 7 })) ∷ []
  -- ready and no progress: onward; not ready and no progress, ready and progress: one more round
  pub rounds : due (good ∷ sense 18 0 0 0 ∷ []) ∷ due (unready 0x70 0x04 ∷ sense 18 0 0 0 ∷ []) ∷ due (good ∷ sense 18 0x80 0 1 ∷ []) ∷ due (good ∷ sense 18 0x80 1 0 ∷ []) ∷ due (good ∷ sense 18 0x80 0xFF 0xFF ∷ []) ∷ [] ≡ 0x5B ∷ replicate 4 0x00
  -- progress counts with bit 7 of byte 15 alone
  pub without_bit : due (good ∷ sense 18 0x7F 1 1 ∷ []) ∷ due (good ∷ sense 18 0xFF 0 0 ∷ []) ∷ due (good ∷ sense 18 0xFF 0 1 ∷ []) ∷ [] ≡ 0x5B ∷ 0x5B ∷ 0x00 ∷ []
  -- "of a good one bytes 15 to 17 count and nothing else": not what it says of 02h/04h/08h
  pub nothing_else : due (good ∷ reply_of true (longer (unready 0x70 0x08)).bytes ∷ []) ≡ 0x5B
  -- a busy 03h goes again alone, "and what the 00h before it said still counts"
  pub busy_sense :
      due (good ∷ longer (unready 0x70 0x08) ∷ [])
      ∷ due (good ∷ unready 0x70 0x08 ∷ unready 0xF0 0x08 ∷ sense 18 0 0 0 ∷ [])
      ∷ due (unready 0x70 0x01 ∷ unready 0x70 0x08 ∷ sense 18 0 0 0 ∷ [])
      ∷ []
      ≡ 0x03 ∷ 0x5B ∷ 0x00 ∷ []
  -- what the 00h of an earlier round said does not
  pub each_round : due (good ∷ sense 18 0x80 1 0 ∷ unready 0x70 0x04 ∷ sense 18 0 0 0 ∷ []) ≡ 0x00
  -- 03h: any other failure is 12, and under 18 bytes 4
  pub sense_fails : stopped (good ∷ unready 0x70 0x07 ∷ []) ∷ stopped (good ∷ unready 0x71 0x08 ∷ []) ∷ [] ≡ 12 ∷ 12 ∷ []
  pub sense_short : stopped (good ∷ sense 17 0 0 0 ∷ []) ∷ stopped (good ∷ sense 18 0 0 0 ∷ []) ∷ [] ≡ 4 ∷ 0 ∷ []
  -- the latest progress, high byte first, kept over the next 00h and a busy 03h
  pub latest :
      progress (closing (good ∷ []))
      ∷ progress (closing (good ∷ sense 18 0x80 0x12 0x34 ∷ []))
      ∷ progress (closing (good ∷ sense 18 0x80 0x12 0x34 ∷ unready 0x70 0x04 ∷ unready 0x70 0x08 ∷ []))
      ∷ progress (closing (good ∷ sense 18 0x80 0x12 0x34 ∷ good ∷ []))
      ∷ progress (closing (good ∷ sense 18 0x80 0xFF 0xFF ∷ []))
      ∷ []
      ≡ 0 ∷ 0x1234 ∷ 0x1234 ∷ 0x1234 ∷ 0xFFFF ∷ []
  -- no forged state polls without the flag, or what is not polled; no poll is a place
  pub forged :
      passes_at (order Tao (300 ∷ [])) CloseSession Ready 0
      ∷ passes_at (order Tao (300 ∷ [])) CloseSession Sense 0
      ∷ passes_at (immediate (order Tao (300 ∷ []))) (writing 1 0 16) Ready 0
      ∷ passes_at (immediate (order Tao (300 ∷ []))) (ModeSelect (record { 0 = 1 })) Sense 0
      ∷ passes (immediate (order Tao (300 ∷ []))) TestUnitReady 0
      ∷ passes (immediate (order Tao (300 ∷ []))) RequestSense 0
      ∷ passes_at (immediate (order Tao (300 ∷ []))) CloseSession Sense 0
      ∷ []
      ≡ replicate 6 false ++ (true ∷ [])

-- ---- document 02: with flag bit 3

abbrev pub flagged : Order → Order
flagged o = record { method = o.method; keep = o.keep; protect = o.protect; immed = o.immed; erase = true; recipe = o.recipe; count = o.count; tracks = o.tracks }

-- the exchanges of an order and these replies, their first refusal, and the bytes that are given then
abbrev pub played : Order → List Reply → List Exchange
played o ys = play (pass o) [] ys

abbrev pub refused_in : Order → List Reply → ℕ
refused_in o ys = number_in (refusal (pass o) (played o ys))

abbrev pub given_in : Order → List Reply → List ℕ
given_in o ys = bytes_of o.immed o.count (ruled (pass o) (played o ys))

-- the same of tracks of these lengths with the flag
abbrev pub wiping : Method → List ℕ → List Reply → ℕ
wiping m ls ys = refused_in (flagged (order m ls)) ys

-- a CD-RW, and a CD-R, with byte 2 of 51h, whose bit 4 is Erasable; both say so to 46h, and to 52h that 300 blocks are free from 0 on
abbrev pub rw : ℕ → Reply
rw two = saying two 0 0x0A 0 300

abbrev pub cd_r : ℕ → Reply
cd_r two = plain two 0 300

abbrev pub twice : Reply → List Reply
twice y = y ∷ y ∷ []

-- the first byte of what a track at once of 300 blocks with the flag is given next
abbrev pub next_byte : List Reply → ℕ
next_byte ys = get_or (given_in (flagged (order Tao (300 ∷ []))) ys) 0 0xFF

-- the same with flag bit 2 too, from the good A1h on
abbrev pub due_polled : List Reply → ℕ
due_polled ys = get_or (given_in (immediate (flagged (order Tao (300 ∷ [])))) (rw 0x12 ∷ rw 0x12 ∷ good ∷ ys)) 0 0xFF

-- the first refusal after a second 51h, and after the 52h behind it
abbrev pub anew : Method → Reply → ℕ
anew m y = wiping m (300 ∷ []) (rw 0x12 ∷ rw 0x12 ∷ good ∷ y ∷ [])

abbrev pub renewed : Method → Reply → ℕ
renewed m y = wiping m (300 ∷ []) (rw 0x12 ∷ rw 0x12 ∷ good ∷ rw 0x10 ∷ y ∷ [])

-- the exchanges from the A1h of a track at once of 300 blocks on
abbrev pub disc_said : List Reply → List Exchange
disc_said ys = played (flagged (order Tao (300 ∷ []))) (rw 0x12 ∷ rw 0x12 ∷ ys)

pub record EraseSheets : Type 0 where
  -- A1h after the first 51h, 01h in byte 1, and 11h with flag bit 2; then 51h, and 52h
  pub commands :
      given_in (flagged (order Tao (300 ∷ []))) (twice (rw 0x12))
      ∷ given_in (flagged (order Sao (300 ∷ []))) (twice (rw 0x11))
      ∷ given_in (immediate (flagged (order Tao (300 ∷ [])))) (twice (rw 0x12))
      ∷ given_in (flagged (order Tao (300 ∷ []))) (rw 0x12 ∷ rw 0x12 ∷ good ∷ [])
      ∷ given_in (flagged (order Tao (300 ∷ []))) (rw 0x12 ∷ rw 0x12 ∷ good ∷ rw 0x10 ∷ [])
      ∷ []
      ≡ (0xA1 ∷ 0x01 ∷ replicate 10 0)
      ∷ (0xA1 ∷ 0x01 ∷ replicate 10 0)
      ∷ (0xA1 ∷ 0x11 ∷ replicate 10 0)
      ∷ (0x51 ∷ 0 ∷ 0 ∷ 0 ∷ 0 ∷ 0 ∷ 0 ∷ 0 ∷ 34 ∷ 0 ∷ [])
      ∷ (0x52 ∷ 0x01 ∷ 0 ∷ 0 ∷ 0 ∷ 0xFF ∷ 0 ∷ 0 ∷ 48 ∷ 0 ∷ [])
      ∷ []
  -- status 1 and 2 are erased, in TAO an appendable disc too, "though it could take the job"; a blank disc is not, "whatever its profile and
  -- Erasable"; nor is any without the flag, and its 51h is not judged: 52h comes whatever order, profile and status
  pub used : next_byte (twice (rw 0x11)) ∷ next_byte (twice (rw 0x12)) ∷ [] ≡ 0xA1 ∷ 0xA1 ∷ []
  pub blank : next_byte (twice (rw 0x10)) ∷ next_byte (twice (rw 0x00)) ∷ next_byte (twice (cd_r 0x10)) ∷ next_byte (twice (cd_r 0x00)) ∷ [] ≡ replicate 4 0x52
  pub unflagged :
      take 1 (given_in (order Tao (300 ∷ [])) (twice (rw 0x11)))
      ∷ take 1 (given_in (order Sao (300 ∷ [])) (twice (rw 0x12)))
      ∷ take 1 (given_in (order_of Sao true (tracks Audio (404850 ∷ 299 ∷ []))) (twice (saying 0x13 0 0x0B 0 0)))
      ∷ []
      ≡ replicate 3 (0x52 ∷ [])
  -- 16: a CD-R, and a CD-RW whose bit 4 is clear, whatever the bits beside it
  pub not_erasable :
      wiping Tao (300 ∷ []) (twice (cd_r 0x11))
      ∷ wiping Tao (300 ∷ []) (twice (cd_r 0x12))
      ∷ wiping Sao (300 ∷ []) (twice (cd_r 0x1E))
      ∷ wiping Tao (300 ∷ []) (twice (rw 0x01))
      ∷ wiping Sao (300 ∷ []) (twice (rw 0x0E))
      ∷ wiping Sao (300 ∷ []) (twice (rw 0x1E))
      ∷ []
      ≡ replicate 5 16 ++ (0 ∷ [])
  -- "4, 5, 6 for status 3, 8, 9, 10 for S alone, 16": each before those behind it, and status 2 and a blank disc judged too
  pub in_turn :
      wiping Sao (299 ∷ []) (saying 0x33 0 0x0B 0 0 ∷ saying 0x33 0 0x0B 0 0 ∷ [])
      ∷ refused_in (flagged (order_of Sao true (tracks Audio (299 ∷ [])))) (twice (saying 0x13 0 0x0B 0 0))
      ∷ refused_in (flagged (order_of Sao true (tracks Audio (299 ∷ [])))) (twice (cd_r 0x13))
      ∷ refused_in (flagged (order_of Sao true (tracks Audio (299 ∷ [])))) (twice (cd_r 0x12))
      ∷ refused_in (flagged (order_of Sao false (track Audio 300 ∷ track Data 299 ∷ []))) (twice (rw 0x10))
      ∷ wiping Tao (404850 ∷ 299 ∷ []) (twice (cd_r 0x12))
      ∷ wiping Tao (404850 ∷ []) (twice (cd_r 0x12))
      ∷ wiping Sao (404849 ∷ []) (twice (cd_r 0x12))
      ∷ []
      ≡ 4 ∷ 5 ∷ 6 ∷ 8 ∷ 8 ∷ 9 ∷ 10 ∷ 16 ∷ []
  -- 5, 6, 9 and 10 on a blank disc
  pub on_blank :
      wiping Tao (300 ∷ []) (twice (saying 0x10 0 0x0B 0 300))
      ∷ wiping Tao (300 ∷ []) (twice (rw 0x13))
      ∷ wiping Tao (299 ∷ []) (twice (rw 0x10))
      ∷ wiping Tao (404850 ∷ []) (twice (rw 0x00))
      ∷ []
      ≡ 5 ∷ 6 ∷ 9 ∷ 10 ∷ []
  -- S alone counts there, in TAO and SAO, "charged where Ask 6 holds", and neither Free Blocks nor an address
  pub alone :
      wiping Tao (404849 ∷ []) (twice (saying 0x12 0x20 0x0A 0xFFFFFFFF 0))
      ∷ wiping Sao (404849 ∷ []) (twice (saying 0x12 0x20 0x0A 0xFFFFFFFF 0))
      ∷ wiping Sao (404850 ∷ []) (twice (rw 0x12))
      ∷ wiping Tao (300 ∷ 404397 ∷ []) (twice (rw 0x12))
      ∷ wiping Tao (300 ∷ 404398 ∷ []) (twice (rw 0x12))
      ∷ []
      ≡ 0 ∷ 0 ∷ 10 ∷ 0 ∷ 10 ∷ []
  -- the second 51h: 4, and 6 for all but blank, in TAO too; "Erasable isn't judged again"
  pub again : anew Tao (rw 0x11) ∷ anew Tao (rw 0x12) ∷ anew Tao (rw 0x13) ∷ anew Sao (rw 0x11) ∷ anew Tao (rw 0x20) ∷ anew Tao (cut 33 (rw 0x10)) ∷ anew Tao (rw 0x00) ∷ anew Sao (rw 0x10) ∷ [] ≡ 6 ∷ 6 ∷ 6 ∷ 6 ∷ 4 ∷ 4 ∷ 0 ∷ 0 ∷ []
  -- the 52h of such a job: 4, 7, 10, in this order, by the method, also without an erasing
  pub at_52 :
      renewed Tao (cut 27 (cd_r 0x10))
      ∷ renewed Tao (saying 0x10 0x20 9 0 299)
      ∷ renewed Tao (rw 0x10)
      ∷ renewed Tao (plain 0x10 0 299)
      ∷ renewed Tao (plain 0x10 404550 300)
      ∷ renewed Tao (plain 0x10 404549 300)
      ∷ renewed Sao (saying 0x10 0x20 9 0 300)
      ∷ renewed Sao (plain 0x10 0 299)
      ∷ renewed Sao (rw 0x10)
      ∷ wiping Tao (300 ∷ []) (rw 0x10 ∷ rw 0x10 ∷ saying 0x10 0x20 9 0 300 ∷ [])
      ∷ wiping Tao (300 ∷ []) (rw 0x10 ∷ rw 0x10 ∷ plain 0x10 0 299 ∷ [])
      ∷ []
      ≡ 4 ∷ 7 ∷ 7 ∷ 10 ∷ 10 ∷ 0 ∷ 7 ∷ 10 ∷ 0 ∷ 7 ∷ 10 ∷ []
  -- A1h: busy, the same again; failed, 12, not ready too
  pub erase_fails :
      next_byte (rw 0x12 ∷ rw 0x12 ∷ unready 0x70 0x08 ∷ [])
      ∷ wiping Tao (300 ∷ []) (rw 0x12 ∷ rw 0x12 ∷ unready 0x70 0x07 ∷ [])
      ∷ wiping Tao (300 ∷ []) (rw 0x12 ∷ rw 0x12 ∷ failed 14 0x70 0x05 0x20 0x00 ∷ [])
      ∷ []
      ≡ 0xA1 ∷ 12 ∷ 12 ∷ []
  -- with flag bit 2 polled until ready and no progress, and 51h after that
  pub polled :
      due_polled []
      ∷ due_polled (good ∷ [])
      ∷ due_polled (good ∷ sense 18 0x80 0x40 0 ∷ [])
      ∷ due_polled (unready 0x70 0x04 ∷ sense 18 0 0 0 ∷ [])
      ∷ due_polled (good ∷ sense 18 0 0 0 ∷ [])
      ∷ due_polled (good ∷ sense 18 0 0 0 ∷ rw 0x10 ∷ [])
      ∷ []
      ≡ 0x00 ∷ 0x03 ∷ 0x00 ∷ 0x00 ∷ 0x51 ∷ 0x52 ∷ []
  -- "The exact count grows by 2": 28 for 26 in TAO, 37 for 35 in SAO; not on a blank disc
  pub counts :
      length (played (flagged (order Tao (300 ∷ []))) (rw 0x12 ∷ rw 0x12 ∷ replicate 60 (plain 0x10 0 300)))
      ∷ length (played (flagged (order Sao (300 ∷ []))) (rw 0x11 ∷ rw 0x11 ∷ replicate 60 (rw 0x10)))
      ∷ length (played (flagged (order Tao (300 ∷ []))) (replicate 60 (plain 0x10 0 300)))
      ∷ length (played (flagged (order Sao (300 ∷ []))) (replicate 60 (rw 0x10)))
      ∷ []
      ≡ 28 ∷ 37 ∷ 26 ∷ 35 ∷ []
  -- the disc counts as not blank from the A1h on that is given, until a 51h says blank, and as erased once one was answered good
  pub said :
      map unblank (disc_said (unready 0x70 0x08 ∷ []) ∷ disc_said (good ∷ []) ∷ disc_said (good ∷ rw 0x11 ∷ []) ∷ disc_said (good ∷ rw 0x10 ∷ []) ∷ [])
      ++ map erased (disc_said [] ∷ disc_said (unready 0x70 0x08 ∷ []) ∷ disc_said (good ∷ []) ∷ disc_said (good ∷ rw 0x10 ∷ []) ∷ [])
      ≡ (replicate 3 true ++ (false ∷ [])) ++ (replicate 2 false ++ replicate 2 true)
  -- no forged state waits at A1h without flag bit 3, or polls it without flag bit 2
  pub forged :
      passes (order Tao (300 ∷ [])) Blank 0
      ∷ passes_at (immediate (order Tao (300 ∷ []))) Blank Ready 0
      ∷ passes_at (flagged (order Tao (300 ∷ []))) Blank Ready 0
      ∷ passes (flagged (order Tao (300 ∷ []))) Blank 0
      ∷ passes_at (immediate (flagged (order Tao (300 ∷ [])))) Blank Sense 0
      ∷ []
      ≡ replicate 3 false ++ (true ∷ true ∷ [])

-- ---- document 02: what lies between tracks

-- a track at once of three times 300 blocks, and its exchanges by what is said in the first track, in the second, and at the third 52h and k
-- times behind it
abbrev pub three_tracks : Order
three_tracks = order Tao (300 ∷ 300 ∷ 300 ∷ [])

abbrev pub threefold : Reply → Reply → ℕ → Reply → List Exchange
threefold x y k z = played three_tracks (replicate 25 x ++ (replicate 23 y ++ replicate (suc k) z))

-- the first refusal up to the third 52h
abbrev pub at_third : Reply → Reply → Reply → ℕ
at_third x y z = number_in (refusal (pass three_tracks) (threefold x y 0 z))

pub record ChargeSheets : Type 0 where
  -- S and the charge equal to Free Blocks pass, one block less is 10: of three tracks, 900 + 2 x 152, and of 99, 29,700 + 98 x 152
  pub first_free :
      opened three_tracks (plain 0 0 1204)
      ∷ opened three_tracks (plain 0 0 1203)
      ∷ opened (order Tao (replicate 99 300)) (plain 0 0 44596)
      ∷ opened (order Tao (replicate 99 300)) (plain 0 0 44595)
      ∷ []
      ≡ 0 ∷ 10 ∷ 0 ∷ 10 ∷ []
  -- so at the second 52h, 600 + 152, and at the last one, where nothing is charged
  pub later_free :
      at_third (plain 0 0 1204) (plain 0 452 752) (plain 0 904 300)
      ∷ at_third (plain 0 0 1204) (plain 0 452 751) (plain 0 904 300)
      ∷ at_third (plain 0 0 1204) (plain 0 452 752) (plain 0 904 299)
      ∷ []
      ≡ 0 ∷ 10 ∷ 10 ∷ []
  -- the same at the lead-out limit, with room: address, S and charge make 404,849, or one more
  pub first_end : opened three_tracks (plain 1 403645 500000) ∷ opened three_tracks (plain 1 403646 500000) ∷ [] ≡ 0 ∷ 10 ∷ []
  pub later_end :
      at_third (plain 0 0 500000) (plain 0 404097 500000) (plain 0 404549 500000)
      ∷ at_third (plain 0 0 500000) (plain 0 404098 500000) (plain 0 404549 500000)
      ∷ at_third (plain 0 0 500000) (plain 0 404097 500000) (plain 0 404550 500000)
      ∷ []
      ≡ 0 ∷ 10 ∷ 10 ∷ []
  -- SAO is not charged
  pub session :
      opened (order Sao (300 ∷ 300 ∷ 300 ∷ [])) (plain 0 0 900)
      ∷ opened (order Sao (300 ∷ 300 ∷ 300 ∷ [])) (plain 0 0 899)
      ∷ opened (order Sao (300 ∷ 404549 ∷ [])) (plain 0 0 404849)
      ∷ opened (order Sao (300 ∷ 404550 ∷ [])) (plain 0 0 404850)
      ∷ []
      ≡ 0 ∷ 10 ∷ 0 ∷ 10 ∷ []
  -- with just that room the job is done on a drive that starts each track 152 blocks after the last one ends
  pub lasting : ruled (pass three_tracks) (threefold (plain 0 0 1204) (plain 0 452 752) 23 (plain 0 904 300)) ≡ done

-- ---- document 02: audio in TAO

-- an audio track of l blocks between data tracks, so many on either side
abbrev pub among : ℕ → ℕ → ℕ → Order
among k l n = order_of Tao false (tracks Data (replicate k 300) ++ (track Audio l ∷ tracks Data (replicate n 300)))

pub record AudioSheets : Type 0 where
  -- 24 "for one audio track among data tracks too": alone, the first, in the middle, the last, the last of 99
  pub each_place :
      opened (among 0 300 0) (plain 0 0 300)
      ∷ opened (among 0 300 1) (plain 0 0 752)
      ∷ opened (among 1 300 1) (plain 0 0 1204)
      ∷ opened (among 2 300 0) (plain 0 0 1204)
      ∷ opened (among 98 300 0) (plain 0 0 44596)
      ∷ []
      ≡ replicate 5 24
  -- data tracks pass, and so do audio tracks in a session at once, with flag bit 3 too
  pub passing :
      opened (order Tao (300 ∷ 300 ∷ [])) (plain 0 0 9000)
      ∷ opened (order Sao (300 ∷ 300 ∷ [])) (plain 0 0 9000)
      ∷ refused_in (flagged (order Sao (300 ∷ []))) (twice (rw 0x10))
      ∷ []
      ≡ replicate 3 0
  -- "4, 5, 6, 7, 24, 8, 9, 10": first with all these faults (8 is of SAO), then without a short reply, another profile, a finalized disc, Damage
  pub in_turn :
      after 2 (among 0 299 1) (saying 2 0x20 0x0B 0 0) (cut 27 (saying 2 0x20 0x0B 0 0))
      ∷ opened (among 0 299 1) (saying 2 0x20 0x0B 0 0)
      ∷ opened (among 0 299 1) (saying 2 0x20 9 0 0)
      ∷ opened (among 0 299 1) (saying 0 0x20 9 0 0)
      ∷ opened (among 0 299 1) (plain 0 404849 0)
      ∷ []
      ≡ 4 ∷ 5 ∷ 6 ∷ 7 ∷ 24 ∷ []
  -- "with Ask 2's flag after the first 51h, also on a blank disc": 4, 5, 6 for status 3, 24; so before 9, 10 and 16
  pub before_erasing :
      refused_in (flagged (among 0 299 1)) (rw 0x13 ∷ cut 33 (rw 0x13) ∷ [])
      ∷ refused_in (flagged (among 0 299 1)) (twice (saying 0x13 0 0x0B 0 0))
      ∷ refused_in (flagged (among 0 299 1)) (twice (cd_r 0x13))
      ∷ refused_in (flagged (among 0 299 1)) (twice (cd_r 0x12))
      ∷ refused_in (flagged (among 0 404850 0)) (twice (rw 0x11))
      ∷ refused_in (flagged (among 1 300 0)) (twice (rw 0x10))
      ∷ refused_in (flagged (among 1 300 0)) (twice (cd_r 0x00))
      ∷ []
      ≡ 4 ∷ 5 ∷ 6 ∷ replicate 4 24
  -- the third reply is its last, with flag bit 3 the second; without the flag none is judged so before
  pub commands :
      length (played (among 0 300 1) (replicate 60 (plain 0 0 752)))
      ∷ length (played (flagged (among 0 300 1)) (replicate 60 (rw 0x12)))
      ∷ refused_in (among 0 300 1) (twice (plain 0 0 752))
      ∷ []
      ≡ 3 ∷ 2 ∷ 0 ∷ []

-- ---- document 02: by the new recipe

abbrev pub newer : List ℕ → Order
newer ls = under New (order Tao ls)

-- the bytes that are given in a track at once of twice 300 blocks, k replies after the second 52h is due
abbrev pub newer_second : ℕ → List ℕ
newer_second k = given_in (newer (300 ∷ 300 ∷ [])) (replicate 24 (plain 0 7 752) ++ replicate k (plain 0 459 300))

pub record RecipeSheets : Type 0 where
  -- "the count in TAO is 3n+3+W": one track of 300, 300 and 317
  pub command_counts : length (script (newer (300 ∷ []))) ∷ length (script (newer (300 ∷ 317 ∷ []))) ∷ [] ≡ 25 ∷ 48 ∷ []
  -- "after 35h the next 52h, or the final 5Bh function 2", and nothing after that
  pub commands :
      bytes_after 23 (newer (300 ∷ [])) (plain 0 0 300)
      ∷ bytes_after 24 (newer (300 ∷ [])) (plain 0 0 300)
      ∷ bytes_after 25 (newer (300 ∷ [])) (plain 0 0 300)
      ∷ newer_second 0
      ∷ newer_second 21
      ∷ newer_second 22
      ∷ []
      ≡ (0x35 ∷ replicate 9 0)
      ∷ (0x5B ∷ 0x00 ∷ 2 ∷ replicate 7 0)
      ∷ []
      ∷ (0x52 ∷ 0x01 ∷ 0 ∷ 0 ∷ 0 ∷ 0xFF ∷ 0 ∷ 0 ∷ 48 ∷ 0 ∷ [])
      ∷ (0x35 ∷ replicate 9 0)
      ∷ (0x5B ∷ 0x00 ∷ 2 ∷ replicate 7 0)
      ∷ []
  -- with flag bit 2 the 35h and the 5Bh are polled as before
  pub polled :
      bytes_after 23 (immediate (newer (300 ∷ []))) (plain 0 0 300)
      ∷ take 1 (bytes_after 24 (immediate (newer (300 ∷ []))) (plain 0 0 300))
      ∷ take 1 (bytes_after 25 (immediate (newer (300 ∷ []))) (plain 0 0 300))
      ∷ bytes_after 26 (immediate (newer (300 ∷ []))) (plain 0 0 300)
      ∷ take 1 (bytes_after 28 (immediate (newer (300 ∷ []))) (plain 0 0 300))
      ∷ bytes_after 29 (immediate (newer (300 ∷ []))) (plain 0 0 300)
      ∷ []
      ≡ (0x35 ∷ 0x02 ∷ replicate 8 0) ∷ (0x00 ∷ []) ∷ (0x03 ∷ []) ∷ (0x5B ∷ 0x01 ∷ 2 ∷ replicate 7 0) ∷ (0x03 ∷ []) ∷ [] ∷ []
  -- "every 35h and 5Bh" of that recipe
  pub closed : closings (newer (300 ∷ 317 ∷ [])) ≡ SynchronizeCache (record { 0 = 1 }) ∷ SynchronizeCache (record { 0 = 2 }) ∷ CloseSession ∷ []
  -- no forged state waits for function 1, as in SAO
  pub forged :
      passes (newer (300 ∷ [])) (CloseTrack (record { 0 = 1 })) 0
      ∷ passes (order Sao (300 ∷ [])) (CloseTrack (record { 0 = 1 })) 0
      ∷ passes (order Tao (300 ∷ [])) (CloseTrack (record { 0 = 1 })) 0
      ∷ passes (newer (300 ∷ [])) (SynchronizeCache (record { 0 = 1 })) 0
      ∷ passes (newer (300 ∷ [])) CloseSession 0
      ∷ []
      ≡ false ∷ false ∷ replicate 3 true

-- ---- document 01's sheets that are marked *, in its order, as one list with one statement. What the byte layouts say of a sheet
-- stands by name in mmc's `Bench`

pub record StarredSheets : Type 0 where
  -- "SAO, no flags, one data track of 300"
  pub block : Layouts.Block
  -- "Track count 0 or 100: 3. 1 and 99 pass."
  pub counts : Layouts.Counts
  -- "Length 299: 9. Length 300 passes.": at the sheet maker, and in a job
  pub lengths : Layouts.Lengths
  pub short_or_long : opened (order Tao (299 ∷ [])) (plain 0 0 299) ∷ opened (order Tao (300 ∷ [])) (plain 0 0 300) ∷ [] ≡ 9 ∷ 0 ∷ []
  -- "S equal to Free Blocks passes; one more: 10.", in TAO the sum that document 02 charges
  pub room :
      opened (order Tao (750 ∷ [])) (plain 1 0 750)
      ∷ opened (order Tao (750 ∷ [])) (plain 1 0 749)
      ∷ opened (order Tao (300 ∷ 450 ∷ [])) (plain 1 0 902)
      ∷ opened (order Tao (300 ∷ 450 ∷ [])) (plain 1 0 901)
      ∷ []
      ≡ 0 ∷ 10 ∷ 0 ∷ 10 ∷ []
  -- "SAO with S 449,849 and room passes; 449,850: 10.", which document 02 moves to 404,849 and 404,850: at the sheet maker, and in a job
  pub lead_outs : Layouts.LeadOuts
  pub last_lead_out : opened (order Sao (404849 ∷ [])) (plain 0 0 404850) ∷ opened (order Sao (404850 ∷ [])) (plain 0 0 404850) ∷ [] ≡ 0 ∷ 10 ∷ []
  -- "Second TAO address equal to the previous end passes; one less: 7."
  pub second_address : after 25 (order Tao (300 ∷ 317 ∷ [])) (plain 0 7 769) (plain 0 307 617) ∷ after 25 (order Tao (300 ∷ 317 ∷ [])) (plain 0 7 769) (plain 0 306 617) ∷ [] ≡ 0 ∷ 7 ∷ []
  -- "Audio 300 and 450"
  pub entries : Layouts.Entries
  -- "TAO data, keep, protected: page starts 05 32 41 C4 08."
  pub page_start : Layouts.PageStart
  -- "-150 is 00:00:00, 0 is 00:02:00", and by document 02 "404,849, whose time is 89:59:74", "-151 becomes 99:59:74 and -45,151 is refused, 15"
  pub times : Layouts.Times
  -- "First SAO WRITE: 2A 00 FF FF FF 6A 00 00 10 00.": its maker, and in a job
  pub first_write : Layouts.FirstWrite
  pub write_given : bytes_after 5 (order Sao (300 ∷ [])) (plain 0 0 300) ≡ 0x2A ∷ 0x00 ∷ 0xFF ∷ 0xFF ∷ 0xFF ∷ 0x6A ∷ 0x00 ∷ 0x00 ∷ 0x10 ∷ 0x00 ∷ []
  -- "One track of 300: TAO 26 commands, SAO 35. TAO 300 and 317: 50."
  pub command_counts : length (script (order Tao (300 ∷ []))) ∷ length (script (order Sao (300 ∷ []))) ∷ length (script (order Tao (300 ∷ 317 ∷ []))) ∷ [] ≡ 26 ∷ 35 ∷ 50 ∷ []

-- ---- the rest of document 01's cases, which carry no mark

pub record OtherSheets : Type 0 where
  -- 55h, 35h, 5Bh for the track and 5Bh for the session in a track at once; 5Dh in a session at once
  pub commands :
      bytes_after 3 (order Tao (300 ∷ [])) (plain 0 0 300)
      ∷ bytes_after 23 (order Tao (300 ∷ [])) (plain 0 0 300)
      ∷ bytes_after 24 (order Tao (300 ∷ [])) (plain 0 0 300)
      ∷ bytes_after 25 (order Tao (300 ∷ [])) (plain 0 0 300)
      ∷ bytes_after 4 (order Sao (300 ∷ [])) (plain 0 0 300)
      ∷ []
      ≡ (0x55 ∷ 0x10 ∷ 0 ∷ 0 ∷ 0 ∷ 0 ∷ 0 ∷ 0 ∷ 60 ∷ 0 ∷ [])
      ∷ (0x35 ∷ 0 ∷ 0 ∷ 0 ∷ 0 ∷ 0 ∷ 0 ∷ 0 ∷ 0 ∷ 0 ∷ [])
      ∷ (0x5B ∷ 0 ∷ 1 ∷ 0 ∷ 0 ∷ 0xFF ∷ 0 ∷ 0 ∷ 0 ∷ 0 ∷ [])
      ∷ (0x5B ∷ 0 ∷ 2 ∷ 0 ∷ 0 ∷ 0 ∷ 0 ∷ 0 ∷ 0 ∷ 0 ∷ [])
      ∷ (0x5D ∷ 0 ∷ 0 ∷ 0 ∷ 0 ∷ 0 ∷ 0 ∷ 0 ∷ 32 ∷ 0 ∷ [])
      ∷ []
  -- finalized disc and a 299-block track: 6
  pub finalized : opened (order Tao (299 ∷ [])) (plain 2 0 299) ≡ 6
  -- a session at once on an appendable disc: 6
  pub appendable : opened (order Sao (300 ∷ [])) (plain 1 0 300) ≡ 6
  -- profile 000Bh: 5
  pub other_profile : opened (order Tao (300 ∷ [])) (saying 0 0 0x0B 0 300) ≡ 5
  -- Damage: 7
  pub damaged : opened (order Sao (300 ∷ [])) (saying 0 0x20 9 0 300) ≡ 7
  -- a CD-RW and NWA_V clear: 7 in TAO, nothing in SAO
  pub unaddressed : opened (order Tao (300 ∷ [])) (saying 0 0 0x0A 0 300) ≡ 7
  pub rewritable : opened (order Sao (300 ∷ [])) (saying 0 0 0x0A 0 300) ≡ 0
  -- a session at once of mixed kinds, and one to be kept appendable: 8
  pub mixed : opened (order_of Sao false (track Audio 300 ∷ track Data 300 ∷ [])) (plain 0 0 600) ≡ 8
  pub kept : opened (order_of Sao true (tracks Audio (300 ∷ []))) (plain 0 0 300) ≡ 8
  -- a track at once may be kept so
  pub tao_free : opened (order_of Tao true (tracks Data (300 ∷ 300 ∷ []))) (plain 0 0 752) ≡ 0
  -- a reply to 51h of another type, by any of the three bits: 4
  pub other_type : opened (order Tao (300 ∷ [])) (plain 0x20 0 300) ∷ opened (order Tao (300 ∷ [])) (plain 0x40 0 300) ∷ opened (order Tao (300 ∷ [])) (plain 0x80 0 300) ∷ [] ≡ 4 ∷ 4 ∷ 4 ∷ []
  -- busy by the codes 70h and F0h; not by the deferred code 71h, nor with 13 bytes
  pub busy : failing 0x70 14 ≡ 0
  pub busy_valid : failing 0xF0 14 ≡ 0
  pub deferred : failing 0x71 14 ≡ 12
  pub too_short : failing 0x70 13 ≡ 12
  -- nor by a neighbouring triple
  pub not_busy :
      number_in (first (failed 14 0x70 0x02 0x04 0x07))
      ∷ number_in (first (failed 14 0x70 0x02 0x04 0x09))
      ∷ number_in (first (failed 14 0x70 0x02 0x05 0x08))
      ∷ number_in (first (failed 14 0x70 0x03 0x04 0x08))
      ∷ []
      ≡ replicate 4 12
  -- the triple that comes with 12: the key is byte 2 modulo 16, by the codes 70h and 71h; zeros by another code, and with 13 bytes
  pub triple : first (failed 14 0x70 0xF9 0x0C 0x02) ≡ found (drive_failed (record { key = 0x09; asc = 0x0C; ascq = 0x02 }))
  pub deferred_triple : first (failed 14 0x71 0x03 0x0C 0x02) ≡ found (drive_failed (record { key = 0x03; asc = 0x0C; ascq = 0x02 }))
  pub no_triple : first (failed 14 0x72 0x03 0x0C 0x02) ≡ found (drive_failed no_sense)
  pub short_triple : first (failed 13 0x70 0x03 0x0C 0x02) ≡ found (drive_failed no_sense)
  -- the least bytes of the replies to 46h, 51h and 52h, and the least that their length fields say
  pub least_bytes : changed 0 (cut 7) ∷ changed 0 (cut 8) ∷ changed 1 (cut 33) ∷ changed 1 (cut 34) ∷ changed 2 (cut 27) ∷ changed 2 (cut 28) ∷ [] ≡ 4 ∷ 0 ∷ 4 ∷ 0 ∷ 4 ∷ 0 ∷ []
  -- more is no fault
  pub more_bytes : changed 0 longer ∷ changed 1 longer ∷ changed 2 longer ∷ [] ≡ replicate 3 0
  pub more_said : changed 1 (headed (0xFF ∷ 0xFF ∷ [])) ∷ changed 2 (headed (0xFF ∷ 0xFF ∷ [])) ∷ [] ≡ replicate 2 0
  pub least_46 : changed 0 (headed (0 ∷ 0 ∷ 0 ∷ 3 ∷ [])) ∷ changed 0 (headed (0 ∷ 0 ∷ 0 ∷ 4 ∷ [])) ∷ [] ≡ 4 ∷ 0 ∷ []
  pub least_51 : changed 1 (headed (0 ∷ 31 ∷ [])) ∷ changed 1 (headed (0 ∷ 32 ∷ [])) ∷ [] ≡ 4 ∷ 0 ∷ []
  pub least_52 : changed 2 (headed (0 ∷ 25 ∷ [])) ∷ changed 2 (headed (0 ∷ 26 ∷ [])) ∷ [] ≡ 4 ∷ 0 ∷ []
  -- the other bits of bytes 2 and 5 say nothing
  pub other_bits : opened (order Tao (300 ∷ [])) (saying 0x1C 0xDF 9 0 300) ≡ 0
  -- the profile has two bytes, an address four, and is unsigned
  pub wide_profile : opened (order Tao (300 ∷ [])) (headed (0 ∷ 32 ∷ 0 ∷ 0 ∷ 0 ∷ 0 ∷ 1 ∷ 9 ∷ []) (plain 0 0 300)) ≡ 5
  pub unsigned : opened (order Tao (300 ∷ [])) (plain 0 0xFFFFFFFF 300) ≡ 10
  -- no forged state passes that a good reply would lead to a WRITE beyond its range: a page or a cue sheet far past the last frame,
  -- and the last WRITE of a pause with a track of no block behind it
  pub far_page : passes (order Tao (300 ∷ [])) (ModeSelect (record { 0 = 1 })) 4000000000 ≡ false
  pub far_sheet : passes (order Sao (300 ∷ [])) SendCueSheet 4000000000 ≡ false
  pub empty_track : passes (order Sao (0 ∷ [])) (writing 0 144 6) 144 ≡ false
