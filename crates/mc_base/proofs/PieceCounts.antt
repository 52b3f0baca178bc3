-- How many frames a message or packet goes in.
use Rattle.std.proofs.Common.{◌≡◌, ℕ, zero, suc, ◌+◌, ◌<◌, Bool, true, false, cond, List, [], ◌∷◌, length, map, drop, refl, ap, ◌∙◌, arith}
use Rattle.std.specs.Prelude.{nat_le}
use Rattle.std.proofs.lemmas.Bool.{leb-false}
use Rattle.std.proofs.lemmas.List.{length-map}
use Rattle.mc_base.specs.Letter.{Carrier, of_message, of_packet, carried, msg, packet, piece_spelling, spelling}
use Rattle.mc_base.specs.Limits.{piece_size, single_size}
use Rattle.mc_base.specs.Pieces.{frames_of_size, frames_needed, item_spellings, parts_count, parts_from, parts_of}

parts-counted : (cut : ℕ) (k : Carrier) (total n offset : ℕ) (rest : List ℕ) → length (parts_from cut k total n offset rest) ≡ n
parts-counted cut k total zero offset rest = refl
parts-counted cut k total (suc n) offset rest = ap suc (parts-counted cut k total n (offset + cut) (drop cut rest))

pub item-frames : (k : Carrier) (bytes : List ℕ) → length (item_spellings k bytes) ≡ frames_of_size (length bytes)
item-frames k bytes = go (nat_le (length bytes) single_size)
  where
    go : (b : Bool) → length (cond b (spelling (carried k bytes) ∷ []) (map piece_spelling (parts_of k bytes))) ≡ cond b 1 (parts_count (length bytes))
    go true = refl
    go false = length-map (parts_of k bytes) piece_spelling ∙ parts-counted piece_size k (length bytes) (parts_count (length bytes)) 0 bytes

pub message-frames : (priority : ℕ) (bytes : List ℕ) → frames_needed (msg priority bytes) ≡ frames_of_size (length bytes)
message-frames priority bytes = item-frames (of_message priority) bytes

pub packet-frames : (number : ℕ) (bytes : List ℕ) → frames_needed (packet number bytes) ≡ frames_of_size (length bytes)
packet-frames number bytes = item-frames (of_packet number) bytes

-- there is at least one
pub some-frames : (n : ℕ) → 0 < frames_of_size n
some-frames n = go (nat_le n single_size) refl
  where
    go : (b : Bool) → nat_le n single_size ≡ b → 0 < cond b 1 (parts_count n)
    go true is = omega arith
    go false is = let more : single_size < n = leb-false n single_size is in omega arith
