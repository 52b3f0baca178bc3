-- For callers: what the clients got, put client by client, all lines of numbered calls, and that a client gets no more than its calls.
use Rattle.std.proofs.Common.{◌≡◌, ℕ, ◌+◌, ◌≤◌, List, [], ◌∷◌, ◌++◌, length, take, drop, Option, Some, None, arith}
use Rattle.std.specs.List.{flat_map}
use Rattle.outer_io.specs.Puts.{Puts}
use Rattle.outer_io.specs.declared.sink.Sink.{Ghosts}
use Rattle.outer_io.specs.declared.writer.Writer.{Writer}
use Rattle.outer_io.proofs.Writing.{puts_then}
use Rattle.call_service.specs.declared.carried.Carried.{Carried}
use Rattle.call_logs.specs.declared.got.Got.{Got}
use Rattle.call_logs.specs.Roles.{and_later, got_from, got_of}
use Rattle.call_report.specs.CallsText.{got_line, carried_text, gots_text, cells_text, calls_text}
use Rattle.call_report.proofs.ListLemmas.{text_more}

-- one client more
pub puts_client : {K : Type 0} (sink : Ghosts K) (a b c : Writer K) (clients : ℕ) (gots : ℕ → List Got) → Puts sink a b (gots_text clients gots) → Puts sink b c (flat_map (got_line (clients + 1)) (gots (clients + 1))) → Puts sink a c (gots_text (clients + 1) gots)
puts_client sink a b c clients gots p q =
    let text : gots_text (clients + 1) gots ≡ gots_text clients gots ++ flat_map (got_line (clients + 1)) (gots (clients + 1)) =
    text_more (λ client. flat_map (got_line client) (gots client)) 1 clients (clients + 1) (omega arith) in
    rw text (puts_then sink a b c (gots_text clients gots) (flat_map (got_line (clients + 1)) (gots (clients + 1))) p q)

pub puts_calls : {K : Type 0} (sink : Ghosts K) (a b c d : Writer K) (clients : ℕ) (history : List Carried) (gots : ℕ → List Got) → Puts sink a b (carried_text clients history) → Puts sink b c (gots_text clients gots) → Puts sink c d (cells_text history) → Puts sink a d (calls_text clients history gots)
puts_calls sink a b c d clients history gots p q r =
    puts_then sink a b d (carried_text clients history) (gots_text clients gots ++ cells_text history) p (puts_then sink b c d (gots_text clients gots) (cells_text history) q r)

few_later : (o : Option Got) (later : List Got) (n : ℕ) → length later ≤ n → length (and_later o later) ≤ n + 1
few_later None later n le = omega arith
few_later (Some g) later n le = omega (arith, le)

-- no more lines than calls
pub few_gots : (repeat number : ℕ) (calls : List (ℕ × ℕ)) (messages : List (List ℕ)) → length (got_from repeat number calls messages) ≤ length calls
few_gots repeat number [] messages = omega arith
few_gots repeat number (call ∷ calls) messages =
    let later = few_gots repeat (number + 1) calls (drop repeat messages) in
    let all = few_later (got_of repeat number (take repeat messages)) (got_from repeat (number + 1) calls (drop repeat messages)) (length calls) later in
    omega (arith, all)
