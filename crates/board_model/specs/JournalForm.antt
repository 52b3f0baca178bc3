-- The form of a plain journal. It depends on the peers and the script of the domain, and on no state.
-- Source: docs/FORMATS.md, "Journal text". A turn visits each peer once, in their order; the puts of a call come directly before
-- it, as many as its answer says that it made.
use Rattle.std.specs.Prelude.{◌≡◌, ℕ, ◌+◌, List, [], ◌∷◌, map}
use Rattle.board_model.specs.declared.scenario.CallLine.{CallLine}
use Rattle.board_model.specs.Journal.{PlainEntry, turned, put, again, waits, called}
use Rattle.board_model.specs.Unjoined.{puts_of, line_numbered}

-- the entries from one on, which this many puts come directly before
abbrev pub IsFrom : List ℕ → List CallLine → ℕ → List PlainEntry → Type 0
IsFrom peers script n [] = n ≡ 0
IsFrom peers script n (turned vs ∷ es) = (n ≡ 0) × (map (λ v. v.peer) vs ≡ peers) × IsFrom peers script 0 es
IsFrom peers script n (put p frame ∷ es) = IsFrom peers script (n + 1) es
IsFrom peers script n (again word ∷ es) = (n ≡ 0) × IsFrom peers script 0 es
IsFrom peers script n (waits k ∷ es) = (n ≡ 0) × IsFrom peers script 0 es
IsFrom peers script n (called k a ∷ es) = (n ≡ puts_of (line_numbered script k) a) × IsFrom peers script 0 es

abbrev pub IsJournal : List ℕ → List CallLine → List PlainEntry → Type 0
IsJournal peers script es = IsFrom peers script 0 es
