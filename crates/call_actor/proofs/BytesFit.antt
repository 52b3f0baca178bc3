-- What actors send is bytes, and a reply goes to a client.
use Rattle.std.proofs.Common.{◌≡◌, ℕ, zero, suc, ◌/◌, ◌^◌, ◌≤◌, ◌<◌, nat_lt, Bool, true, false, cond, List, [], ◌∷◌, ◌++◌, length, replicate, refl, arith, length-append}
use Rattle.std.specs.Prelude.{◌&&◌, Result, Ok, Err, not, slice_index}
use Rattle.std.specs.Int.{byte_at, bytes_low_first}
use Rattle.std.specs.List.{AllByRecursion}
use Rattle.std.proofs.Math.Nat.{mod-lt}
use Rattle.std.proofs.lemmas.Bool.{ltb-true}
use Rattle.byteorder.specs.Endian.{little_bytes}
use Rattle.byteorder.specs.Numbers.{length-bytes_low_first}
use Rattle.mc_base.specs.Limits.{asked_limit, domain_limit}
use Rattle.board_model.proofs.MessageAlls.{all-append}
use Rattle.call_service.specs.declared.reply.Reply.{Reply}
use Rattle.call_service.specs.declared.reply.Status.{Status}
use Rattle.call_service.specs.declared.reply.Status.TheVariants.{Done, Over, Old, Gap}
use Rattle.call_service.specs.declared.request.Request.{Request}
use Rattle.call_service.specs.declared.request.ServiceFault.{ServiceFault}
use Rattle.call_service.specs.declared.request.ServiceFault.TheVariants.{Form, Client, Cell, Full}
use Rattle.call_service.specs.Bytes.{has_form, is_client, is_cell, request_of, status_byte, reply_bytes}
use Rattle.call_service.specs.Handled.{State, Handled, is_full, refused, replied, handled_request, handled}
use Rattle.call_service.specs.Served.{served}
use Rattle.call_logs.specs.CallBytes.{request_bytes, bye_bytes}
use Rattle.call_logs.specs.Roles.{handled_from, handled_all}

-- bytes that a line may send
pub record FitsLine (bytes : List ℕ) : Type 0 where
  pub short : length bytes ≤ asked_limit
  pub are_bytes : AllByRecursion (λ b. b < 256) bytes

byte_fits : (i n : ℕ) → byte_at i n < 256
byte_fits zero n = mod-lt n (omega arith)
byte_fits (suc i) n = mod-lt (n / 256 ^ suc i) (omega arith)

bytes_fit : (i k n : ℕ) → AllByRecursion (λ b. b < 256) (bytes_low_first i k n)
bytes_fit i zero n = tt
bytes_fit i (suc k) n = (byte_fits i n, bytes_fit (suc i) k n)

-- four bytes, a number of four bytes and one of eight
sixteen_fit : (a b c d number amount : ℕ) → a < 256 → b < 256 → c < 256 → d < 256 → FitsLine (a ∷ b ∷ c ∷ d ∷ (little_bytes 4 number ++ little_bytes 8 amount))
sixteen_fit a b c d number amount fits_a fits_b fits_c fits_d = record {
  short = omega (arith, length-append (little_bytes 4 number) (little_bytes 8 amount), length-bytes_low_first 0 4 number, length-bytes_low_first 0 8 amount);
  are_bytes = (fits_a, (fits_b, (fits_c, (fits_d, all-append (λ b. b < 256) (little_bytes 4 number) (little_bytes 8 amount) (bytes_fit 0 4 number) (bytes_fit 0 8 amount)))));
}

pub request_fits : (client number cell amount : ℕ) → client < 256 → cell < 256 → FitsLine (request_bytes client number cell amount)
request_fits client number cell amount low cell_low = sixteen_fit 81 client cell 0 number amount (omega arith) low cell_low (omega arith)

pub bye_fits : (client : ℕ) → client < 256 → FitsLine (bye_bytes client)
bye_fits client low = record { short = omega arith; are_bytes = (omega arith, (low, zeros 14)) }
  where
    zeros : (n : ℕ) → AllByRecursion (λ b. b < 256) (replicate n 0)
    zeros zero = tt
    zeros (suc n) = (omega arith, zeros n)

-- ---- replies

status_fits : (status : Status) → status_byte status < 256
status_fits Done = omega arith
status_fits Over = omega arith
status_fits Old = omega arith
status_fits Gap = omega arith

reply_fits : (number : ℕ) (r : Reply) → FitsLine (reply_bytes number r)
reply_fits number r = sixteen_fit 82 (status_byte r.status) 0 0 number r.value (omega arith) (status_fits r.status) (omega arith) (omega arith)

-- a reply goes to a client, and is bytes that a line may send
abbrev pub RepliesWell : Result ℕ ServiceFault → List ℕ → Type 0
RepliesWell (Ok to) reply = (to ≤ 7) × FitsLine reply
RepliesWell (Err fault) reply = Unit {0}

client_few : (n : ℕ) → is_client n ≡ true → n ≤ 7
client_few n is = go (nat_lt 0 n) is
  where
    go : (b : Bool) → (b && nat_lt n domain_limit) ≡ true → n ≤ 7
    go true is = omega (arith, ltb-true n domain_limit is)
    go false is = absurd cc

module _ (s : State) (old : List ℕ) where
  request_well : (r : Request) → r.client ≤ 7 → RepliesWell (handled_request s old (Ok r)).answer (handled_request s old (Ok r)).reply
  request_well r few = go (is_full s r)
    where
      go : (b : Bool) → RepliesWell (cond b (refused Full s old) (replied s r)).answer (cond b (refused Full s old) (replied s r)).reply
      go true = tt
      go false = (few, reply_fits r.number (served s.history r).reply)

  pub handled_well : (message : List ℕ) → RepliesWell (handled s message old).answer (handled s message old).reply
  handled_well m = go (has_form m) (is_client (slice_index m 1)) refl (is_cell (slice_index m 2))
    where
      go : (form client : Bool) → is_client (slice_index m 1) ≡ client → (cell : Bool) →
          RepliesWell (handled_request s old (cond (not form) (Err Form) (cond (not client) (Err Client) (cond (not cell) (Err Cell) (Ok (request_of m)))))).answer
          (handled_request s old (cond (not form) (Err Form) (cond (not client) (Err Client) (cond (not cell) (Err Cell) (Ok (request_of m)))))).reply
      go false client is cell = tt
      go true false is cell = tt
      go true true is false = tt
      go true true is true = request_well (request_of m) (client_few (slice_index m 1) is)

from_well : (h : Handled) (messages : List (List ℕ)) → RepliesWell h.answer h.reply → RepliesWell (handled_from h messages).answer (handled_from h messages).reply
from_well h [] well = well
from_well h (m ∷ ms) well = from_well (handled h.service m h.reply) ms (handled_well h.service h.reply m)

pub all_well : (calls : ℕ) (messages : List (List ℕ)) → RepliesWell (handled_all calls messages).answer (handled_all calls messages).reply
all_well calls messages = from_well _ messages tt
