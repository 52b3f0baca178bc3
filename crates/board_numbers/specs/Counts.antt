-- What a journal's lines count: the frames put to each domain and taken from it, and the messages sent, brought and lost.
-- Source: docs/FORMATS.md, "Journal text". The lines that count stand in board_model's `Tallies`.
use Rattle.std.specs.Prelude.{◌≡◌, ℕ, ◌+◌, ◌<◌, ◌^◌, Bool, List, slice_index, count_by, if◌then◌else◌}
use Rattle.mc_base.specs.Limits.{domain_limit}
use Rattle.board_model.specs.Journal.{Line}
use Rattle.board_model.specs.Tallies.{is_put_to, is_taken_from, is_sent_line, is_brought_line, is_lost_line}
use Rattle.board_numbers.specs.declared.counts.Counts.{Counts}

-- a test as a number to add up
abbrev pub one_if : Bool → ℕ
one_if b = if b then 1 else 0

-- the numbers are those of these lines
pub record AreCounts (c : Counts) (lines : List Line) : Type 0 where
  pub puts : (n : ℕ) → n < domain_limit → slice_index c.puts n ≡ count_by (is_put_to n) lines
  pub takes : (n : ℕ) → n < domain_limit → slice_index c.takes n ≡ count_by (is_taken_from n) lines
  pub sent : c.sent ≡ count_by is_sent_line lines
  pub brought : c.brought ≡ count_by is_brought_line lines
  pub lost : c.lost ≡ count_by is_lost_line lines

-- one more can be counted
pub record HaveRoom (c : Counts) : Type 0 where
  pub puts : (n : ℕ) → n < domain_limit → slice_index c.puts n + 1 < 2 ^ 64
  pub takes : (n : ℕ) → n < domain_limit → slice_index c.takes n + 1 < 2 ^ 64
  pub sent : c.sent + 1 < 2 ^ 64
  pub brought : c.brought + 1 < 2 ^ 64
  pub lost : c.lost + 1 < 2 ^ 64
