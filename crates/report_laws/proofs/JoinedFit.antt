-- The lines of a journal are those of entries where its entries are so: idle turns and tries are joined while their count has a place.
use Rattle.std.proofs.Common.{◌≡◌, ℕ, zero, suc, ◌+◌, ◌-◌, ◌^◌, ◌<◌, Bool, true, false, ◌&&◌, cond, List, [], ◌∷◌, ◌++◌, length, take, Option, Some, None, slice_get, slice_set, refl, arith}
use Rattle.std.specs.Prelude.{nat_lt}
use Rattle.std.specs.List.{AllByRecursion, flat_map, list_all}
use Rattle.std.proofs.lemmas.Bool.{and_parts}
use Rattle.std.proofs.lemmas.Bool.Decides.{nat_tests}
use Rattle.mc_base.specs.declared.refusal.Refusal.{Refusal}
use Rattle.board_model.specs.Words.{same_word}
use Rattle.board_model.specs.Journal.{PlainEntry, turned, put, again, waits, called, Line, idle_line, again_line, spin_line, turn_line, back_line, put_line, see_line, take_line, wait_line, call_line, visit_lines, is_idle, joinable, with_idle, noted_idle, spinning, with_spin, noted_spin, is_one_idle, noted_again, noted, noted_all, joined}
use Rattle.board_model.proofs.MessageAlls.{all-append}
use Rattle.mc_journal.specs.EntryText.{IsEntryLine}
use Rattle.report_laws.proofs.FramesFit.{all-take}

abbrev Are : List Line → Type 0
Are lines = AllByRecursion IsEntryLine lines

-- the lines of an entry, where it is joined to none
abbrev pub FitsEntry : PlainEntry → Type 0
FitsEntry (turned visits) = AllByRecursion IsEntryLine (flat_map visit_lines visits)
FitsEntry (put peer frame) = IsEntryLine (put_line peer frame)
FitsEntry (again word) = Unit {0}
FitsEntry (waits number) = IsEntryLine (wait_line number)
FitsEntry (called number answer) = IsEntryLine (call_line number answer)

all-set : (lines : List Line) (i : ℕ) (l : Line) → Are lines → IsEntryLine l → Are (slice_set lines i l)
all-set [] i l all one = tt
all-set (k ∷ ks) zero l all one = (one, all.1)
all-set (k ∷ ks) (suc i) l all one = (all.0, all-set ks i l all.1 one)

-- a line that is joined to has a count below the greatest
joinable-less : (o : Option Line) (n : ℕ) → joinable o ≡ Some n → n + 1 < 2 ^ 64
joinable-less None n e = absurd cc
joinable-less (Some (idle_line m)) n e = go (nat_lt m (2 ^ 64 - 1)) refl e
  where
    go : (b : Bool) → nat_lt m (2 ^ 64 - 1) ≡ b → cond b (Some m) None ≡ Some n → n + 1 < 2 ^ 64
    go true is e = let same : m ≡ n = cc in let less : m < 2 ^ 64 - 1 = grind (arith, nat_tests) in omega (arith, same, less)
    go false is e = absurd cc
joinable-less (Some (again_line w)) n e = absurd cc
joinable-less (Some (spin_line k w)) n e = absurd cc
joinable-less (Some turn_line) n e = absurd cc
joinable-less (Some (back_line p k)) n e = absurd cc
joinable-less (Some (put_line p f)) n e = absurd cc
joinable-less (Some (see_line p k)) n e = absurd cc
joinable-less (Some (take_line p f w)) n e = absurd cc
joinable-less (Some (wait_line k)) n e = absurd cc
joinable-less (Some (call_line k a)) n e = absurd cc

spinning-less : (word : Refusal) (o : Option Line) (n : ℕ) → spinning word o ≡ Some n → n + 1 < 2 ^ 64
spinning-less word None n e = absurd cc
spinning-less word (Some (idle_line m)) n e = absurd cc
spinning-less word (Some (again_line w)) n e = absurd cc
spinning-less word (Some (spin_line m w)) n e = go (same_word w word && nat_lt m (2 ^ 64 - 1)) refl e
  where
    go : (b : Bool) → (same_word w word && nat_lt m (2 ^ 64 - 1)) ≡ b → cond b (Some m) None ≡ Some n → n + 1 < 2 ^ 64
    go true is e =
        let same : m ≡ n = cc in
        let test : nat_lt m (2 ^ 64 - 1) ≡ true = (and_parts (same_word w word) (nat_lt m (2 ^ 64 - 1)) is).1 in
        let less : m < 2 ^ 64 - 1 = grind (arith, nat_tests) in
        omega (arith, same, less)
    go false is e = absurd cc
spinning-less word (Some turn_line) n e = absurd cc
spinning-less word (Some (back_line p k)) n e = absurd cc
spinning-less word (Some (put_line p f)) n e = absurd cc
spinning-less word (Some (see_line p k)) n e = absurd cc
spinning-less word (Some (take_line p f w)) n e = absurd cc
spinning-less word (Some (wait_line k)) n e = absurd cc
spinning-less word (Some (call_line k a)) n e = absurd cc

push : (lines : List Line) (l : Line) → Are lines → IsEntryLine l → Are (lines ++ l ∷ [])
push lines l all one = all-append IsEntryLine lines (l ∷ []) all (one, tt)

idle-fits : (lines : List Line) → Are lines → Are (noted_idle lines)
idle-fits lines all = go (joinable (slice_get lines (length lines - 1))) refl
  where
    go : (o : Option ℕ) → joinable (slice_get lines (length lines - 1)) ≡ o → Are (with_idle o lines)
    go None is = push lines (idle_line 1) all (omega arith)
    go (Some n) is = all-set lines (length lines - 1) (idle_line (n + 1)) all (joinable-less (slice_get lines (length lines - 1)) n is)

spin-fits : (word : Refusal) (lines : List Line) → Are lines → Are (noted_spin word lines)
spin-fits word lines all = go (spinning word (slice_get lines (length lines - 1))) refl
  where
    go : (o : Option ℕ) → spinning word (slice_get lines (length lines - 1)) ≡ o → Are (with_spin word o lines)
    go None is = push lines (spin_line 1 word) all (omega arith)
    go (Some n) is = all-set lines (length lines - 1) (spin_line (n + 1) word) all (spinning-less word (slice_get lines (length lines - 1)) n is)

again-fits : (word : Refusal) (lines : List Line) → Are lines → Are (noted_again word lines)
again-fits word lines all = go (is_one_idle (slice_get lines (length lines - 1)))
  where
    go : (b : Bool) → Are (cond b (noted_spin word (take (length lines - 1) lines)) (lines ++ again_line word ∷ []))
    go true = spin-fits word (take (length lines - 1) lines) (all-take IsEntryLine (length lines - 1) lines all)
    go false = push lines (again_line word) all tt

noted-fits : (lines : List Line) (e : PlainEntry) → Are lines → FitsEntry e → Are (noted lines e)
noted-fits lines (turned visits) all fits = go (list_all is_idle visits)
  where
    go : (b : Bool) → Are (cond b (noted_idle lines) (lines ++ turn_line ∷ flat_map visit_lines visits))
    go true = idle-fits lines all
    go false = all-append IsEntryLine lines (turn_line ∷ flat_map visit_lines visits) all (tt, fits)
noted-fits lines (put peer frame) all fits = push lines (put_line peer frame) all fits
noted-fits lines (again word) all fits = again-fits word lines all
noted-fits lines (waits number) all fits = push lines (wait_line number) all fits
noted-fits lines (called number answer) all fits = push lines (call_line number answer) all fits

all-noted : (lines : List Line) (es : List PlainEntry) → Are lines → AllByRecursion FitsEntry es → Are (noted_all lines es)
all-noted lines [] all fits = all
all-noted lines (e ∷ es) all fits = all-noted (noted lines e) es (noted-fits lines e all fits.0) fits.1

pub joined-fits : (es : List PlainEntry) → AllByRecursion FitsEntry es → AllByRecursion IsEntryLine (joined es)
joined-fits es fits = all-noted [] es tt fits
