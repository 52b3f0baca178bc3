-- The frames that a domain puts are bytes, whatever it knows: numbers are spelled by their lowest bytes, and contents are those of calls.
use Rattle.std.proofs.Common.{ℕ, zero, suc, ◌+◌, ◌/◌, ◌%◌, ◌<◌, ◌-◌, false, List, [], ◌∷◌, ◌++◌, length, map, take, drop, replicate, Option, Some, None, arith}
use Rattle.std.specs.Prelude.{◌==◌, nat_le, nat_lt, codes, decimal}
use Rattle.std.specs.Fmt.{digit_glyph, digits_onto, digits}
use Rattle.std.specs.List.{AllByRecursion}
use Rattle.std.specs.Int.{byte_at, bytes_low_first}
use Rattle.std.proofs.lemmas.Bool.{cond_both}
use Rattle.byteorder.specs.Endian.{little_bytes}
use Rattle.mc_base.specs.Announcement.{flags_of}
use Rattle.mc_base.specs.Frame.{made}
use Rattle.mc_base.specs.FullName.{end_name, full_name}
use Rattle.mc_base.specs.Letter.{Carrier, of_message, of_packet, carried, piece, piece_spelling, PlainLetter, msg, connect, accept, reject, recv_open, send_open, packet, scalar, send_close, recv_close, spelling, kind_number, reason_number, bytes_of_bits}
use Rattle.mc_base.specs.Limits.{piece_size, single_size}
use Rattle.mc_base.specs.Pieces.{item_spellings, parts_count, parts_from, parts_of, spellings}
use Rattle.mc_base.specs.declared.channel.Bits.{Bits}
use Rattle.mc_base.specs.declared.channel.Bits.TheVariants.{B8, B16, B32, B64}
use Rattle.mc_base.specs.declared.channel.Kind.{Kind}
use Rattle.mc_base.specs.declared.channel.Kind.TheVariants.{Packet, Scalar}
use Rattle.mc_base.specs.declared.channel.Reason.{Reason}
use Rattle.mc_base.specs.declared.channel.Reason.TheVariants.{NoEndpoint, Connected, Busy}
use Rattle.mc_base.specs.declared.name.EndName.{EndName}
use Rattle.board_model.specs.State.{Announcement, Reply, Peer, announcing, letter_by, replying, owed_to}
use Rattle.board_model.proofs.MessageAlls.{all-append, all-drop}
use Rattle.mc_journal.specs.EntryText.{AreBytes}

abbrev pub bytes-append : (xs ys : List ℕ) → AreBytes xs → AreBytes ys → AreBytes (xs ++ ys)
bytes-append = all-append (λ b. b < 256)

pub all-take : {A : Type 0} (P : A → Type 0) (n : ℕ) (xs : List A) → AllByRecursion P xs → AllByRecursion P (take n xs)
all-take P zero xs all = tt
all-take P (suc n) [] all = tt
all-take P (suc n) (x ∷ xs) all = (all.0, all-take P n xs all.1)

-- ---- numbers

byte-fits : (k x : ℕ) → byte_at k x < 256
byte-fits zero x = omega arith
byte-fits (suc i) x = omega arith

pub low-bytes : (i n x : ℕ) → AreBytes (bytes_low_first i n x)
low-bytes i zero x = tt
low-bytes i (suc n) x = (byte-fits i x, low-bytes (suc i) n x)

pub little-bytes : (n x : ℕ) → AreBytes (little_bytes n x)
little-bytes n x = low-bytes 0 n x

glyph-fits : (d : ℕ) → d < 10 → digit_glyph false d < 256
glyph-fits d small = cond_both (nat_lt d 10) (48 + d) (87 + d) (λ n. n < 256) (λ e. omega (arith, small)) (λ e. omega (arith, small))

digits-fit : (k n : ℕ) (acc : List ℕ) → AreBytes acc → AreBytes (digits_onto k 10 false n acc)
digits-fit zero n acc all = all
digits-fit (suc k) n acc all =
    let more : AreBytes (digit_glyph false (n % 10) ∷ acc) = (glyph-fits (n % 10) (omega arith), all) in
    cond_both (n / 10 == 0) (digit_glyph false (n % 10) ∷ acc) (digits_onto k 10 false (n / 10) (digit_glyph false (n % 10) ∷ acc)) AreBytes (λ e. more) (λ e. digits-fit k (n / 10) (digit_glyph false (n % 10) ∷ acc) more)

decimal-fits : (n : ℕ) → AreBytes (decimal n)
unfolding digits
decimal-fits n = digits-fit 64 n [] tt

zeros-fit : (n : ℕ) → AreBytes (replicate n 0)
zeros-fit zero = tt
zeros-fit (suc n) = (omega arith, zeros-fit n)

-- ---- frames

pub made-fits : (source destination : ℕ) (payload : List ℕ) → AreBytes payload → AreBytes (made source destination payload)
made-fits source destination payload all =
    let flags : List ℕ = little_bytes 2 0 in
    let behind : List ℕ = little_bytes 2 (length payload) ++ flags in
    let reserved : List ℕ = little_bytes 4 0 ++ behind in
    let rest : List ℕ = little_bytes 4 destination ++ reserved in
    bytes-append (little_bytes 4 source ++ rest) payload
    (bytes-append (little_bytes 4 source) rest (little-bytes 4 source)
    (bytes-append (little_bytes 4 destination) reserved (little-bytes 4 destination)
    (bytes-append (little_bytes 4 0) behind (little-bytes 4 0)
    (bytes-append (little_bytes 2 (length payload)) flags (little-bytes 2 (length payload)) (little-bytes 2 0)))))
    all

-- ---- letters

-- a letter of a lawful call: its priority is a byte, and its content is bytes
abbrev pub FitsLetter : PlainLetter → Type 0
FitsLetter (msg priority bytes) = (priority < 256) × AreBytes bytes
FitsLetter (packet channel bytes) = AreBytes bytes
FitsLetter other = Unit {0}

spelled-fits : (version kind argument channel : ℕ) (content : List ℕ) → version < 256 → kind < 256 → argument < 256 → AreBytes content → AreBytes (0x4d ∷ version ∷ kind ∷ argument ∷ (little_bytes 4 channel ++ content))
spelled-fits version kind argument channel content v k a all = (omega arith, (v, (k, (a, bytes-append (little_bytes 4 channel) content (little-bytes 4 channel) all))))

kind-fits : (kind : Kind) → kind_number kind < 256
kind-fits Packet = omega arith
kind-fits Scalar = omega arith

reason-fits : (reason : Reason) → reason_number reason < 256
reason-fits NoEndpoint = omega arith
reason-fits Connected = omega arith
reason-fits Busy = omega arith

pub bits-fit : (bits : Bits) → bytes_of_bits bits < 256
bits-fit B8 = omega arith
bits-fit B16 = omega arith
bits-fit B32 = omega arith
bits-fit B64 = omega arith

spelling-fits : (l : PlainLetter) → FitsLetter l → AreBytes (spelling l)
spelling-fits (msg priority bytes) fits = spelled-fits 1 1 priority 0 bytes (omega arith) (omega arith) fits.0 fits.1
spelling-fits (connect channel kind) fits = spelled-fits 1 2 (kind_number kind) channel [] (omega arith) (omega arith) (kind-fits kind) tt
spelling-fits (accept channel) fits = spelled-fits 1 3 0 channel [] (omega arith) (omega arith) (omega arith) tt
spelling-fits (reject channel reason) fits = spelled-fits 1 4 (reason_number reason) channel [] (omega arith) (omega arith) (reason-fits reason) tt
spelling-fits (recv_open channel) fits = spelled-fits 1 5 0 channel [] (omega arith) (omega arith) (omega arith) tt
spelling-fits (send_open channel) fits = spelled-fits 1 6 0 channel [] (omega arith) (omega arith) (omega arith) tt
spelling-fits (packet channel bytes) fits = spelled-fits 1 7 0 channel bytes (omega arith) (omega arith) (omega arith) fits
spelling-fits (scalar channel bits value) fits =
    spelled-fits 1 8 (bytes_of_bits bits) channel (little_bytes (bytes_of_bits bits) value) (omega arith) (omega arith) (bits-fit bits) (little-bytes (bytes_of_bits bits) value)
spelling-fits (send_close channel) fits = spelled-fits 1 9 0 channel [] (omega arith) (omega arith) (omega arith) tt
spelling-fits (recv_close channel) fits = spelled-fits 1 10 0 channel [] (omega arith) (omega arith) (omega arith) tt

-- a part of a message or packet
abbrev FitsCarrier : Carrier → Type 0
FitsCarrier (of_message priority) = priority < 256
FitsCarrier (of_packet channel) = Unit {0}

numbers-fit : (total offset : ℕ) (content : List ℕ) → AreBytes content → AreBytes (little_bytes 2 total ++ (little_bytes 2 offset ++ content))
numbers-fit total offset content all =
    bytes-append (little_bytes 2 total) (little_bytes 2 offset ++ content) (little-bytes 2 total) (bytes-append (little_bytes 2 offset) content (little-bytes 2 offset) all)

piece-fits : (k : Carrier) (total offset : ℕ) (content : List ℕ) → FitsCarrier k → AreBytes content → AreBytes (piece_spelling (piece k total offset content))
piece-fits (of_message priority) total offset content low all = spelled-fits 2 1 priority 0 (little_bytes 2 total ++ (little_bytes 2 offset ++ content)) (omega arith) (omega arith) low (numbers-fit total offset content all)
piece-fits (of_packet channel) total offset content low all = spelled-fits 2 7 0 channel (little_bytes 2 total ++ (little_bytes 2 offset ++ content)) (omega arith) (omega arith) (omega arith) (numbers-fit total offset content all)

parts-fit : (cut : ℕ) (k : Carrier) (total n offset : ℕ) (rest : List ℕ) → FitsCarrier k → AreBytes rest → AllByRecursion AreBytes (map piece_spelling (parts_from cut k total n offset rest))
parts-fit cut k total zero offset rest low all = tt
parts-fit cut k total (suc n) offset rest low all =
    (piece-fits k total offset (take cut rest) low (all-take (λ b. b < 256) cut rest all), parts-fit cut k total n (offset + cut) (drop cut rest) low (all-drop (λ b. b < 256) cut rest all))

item-fits : (k : Carrier) (bytes : List ℕ) → FitsCarrier k → AreBytes bytes → AreBytes (spelling (carried k bytes)) → AllByRecursion AreBytes (item_spellings k bytes)
item-fits k bytes low all one =
    cond_both (nat_le (length bytes) single_size) (spelling (carried k bytes) ∷ []) (map piece_spelling (parts_of k bytes)) (AllByRecursion AreBytes) (λ e. (one, tt)) (λ e. parts-fit piece_size k (length bytes) (parts_count (length bytes)) 0 bytes low all)

-- all payloads of a letter
pub spellings-fit : (l : PlainLetter) → FitsLetter l → AllByRecursion AreBytes (spellings l)
spellings-fit (msg priority bytes) fits = item-fits (of_message priority) bytes fits.0 fits.1 (spelling-fits (msg priority bytes) fits)
spellings-fit (packet channel bytes) fits = item-fits (of_packet channel) bytes tt fits (spelling-fits (packet channel bytes) fits)
spellings-fit (connect channel kind) fits = (spelling-fits (connect channel kind) fits, tt)
spellings-fit (accept channel) fits = (spelling-fits (accept channel) fits, tt)
spellings-fit (reject channel reason) fits = (spelling-fits (reject channel reason) fits, tt)
spellings-fit (recv_open channel) fits = (spelling-fits (recv_open channel) fits, tt)
spellings-fit (send_open channel) fits = (spelling-fits (send_open channel) fits, tt)
spellings-fit (scalar channel bits value) fits = (spelling-fits (scalar channel bits value) fits, tt)
spellings-fit (send_close channel) fits = (spelling-fits (send_close channel) fits, tt)
spellings-fit (recv_close channel) fits = (spelling-fits (recv_close channel) fits, tt)

pub letter-fits : (source destination : ℕ) (l : PlainLetter) → FitsLetter l → AreBytes (made source destination (spelling l))
letter-fits source destination l fits = made-fits source destination (spelling l) (spelling-fits l fits)

-- ---- what is owed

name-fits : (n : EndName) → AreBytes (full_name n)
name-fits n =
    let node : List ℕ = decimal n.node ++ (58 ∷ decimal n.port) in
    bytes-append (codes "mcapi:") (decimal n.domain ++ (58 ∷ node)) (omega arith, (omega arith, (omega arith, (omega arith, (omega arith, (omega arith, tt))))))
    (bytes-append (decimal n.domain) (58 ∷ node) (decimal-fits n.domain) (omega arith, bytes-append (decimal n.node) (58 ∷ decimal n.port) (decimal-fits n.node) (omega arith, decimal-fits n.port)))

announcing-fits : (domain : ℕ) (a : Announcement) → AreBytes (announcing domain a)
announcing-fits domain a =
    let name : List ℕ = full_name (end_name domain a.local) in
    let flags : List ℕ = little_bytes 4 (flags_of a.create) in
    let behind : List ℕ = little_bytes 4 a.address ++ flags in
    let zeros : List ℕ = replicate (32 - length name) 0 in
    made-fits a.address 53 (name ++ (zeros ++ behind))
    (bytes-append name (zeros ++ behind) (name-fits (end_name domain a.local))
    (bytes-append zeros behind (zeros-fit (32 - length name))
    (bytes-append (little_bytes 4 a.address) flags (little-bytes 4 a.address) (little-bytes 4 (flags_of a.create)))))

replying-fits : (r : Reply) → AreBytes (replying r)
replying-fits r = letter-fits r.source r.destination (letter_by r.channel r.reason) (go r.reason)
  where
    go : (o : Option Reason) → FitsLetter (letter_by r.channel o)
    go None = tt
    go (Some reason) = tt

each-fits : {A : Type 0} (f : A → List ℕ) → ((x : A) → AreBytes (f x)) → (xs : List A) → AllByRecursion AreBytes (map f xs)
each-fits f fits [] = tt
each-fits f fits (x ∷ xs) = (fits x, each-fits f fits xs)

pub owed-fits : (domain : ℕ) (p : Peer) → AllByRecursion AreBytes (owed_to domain p)
owed-fits domain p = all-append AreBytes (map (announcing domain) p.announcements) (map replying p.replies) (each-fits (announcing domain) (announcing-fits domain) p.announcements) (each-fits replying replying-fits p.replies)
