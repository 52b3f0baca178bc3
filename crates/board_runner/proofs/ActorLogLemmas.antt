-- Logs, line by line: one more line with its answer, and the answer in the last line of a journal.
use Rattle.std.proofs.Common.{◌≡◌, ℕ, ◌+◌, ◌-◌, List, [], ◌∷◌, ◌++◌, map, length, Option, Some, slice_get, refl, sym, ap, subst, ◌∙◌, arith, append_assoc, append-nil, length-append}
use Rattle.std.specs.Prelude.{option_and_then}
use Rattle.board_model.specs.declared.scenario.CallLine.{CallLine}
use Rattle.board_model.specs.Journal.{Line, call_line, PlainAnswer}
use Rattle.board_model.specs.Lists.{IsPrefix}
use Rattle.board_model.specs.Logs.{LoggedCall, logged, paired}
use Rattle.board_runner.specs.ActorLogs.{MayFollow, AllFollow, lines_in_log}

-- ---- lines with their answers

pub paired-more : (lines : List CallLine) (answers : List PlainAnswer) (line : CallLine) (a : PlainAnswer) → length answers ≡ length lines → paired (lines ++ line ∷ []) (answers ++ a ∷ []) ≡ paired lines answers ++ logged line a ∷ []
paired-more [] [] line a same = refl
paired-more [] (b ∷ bs) line a same = absurd (omega (arith, same))
paired-more (l ∷ ls) [] line a same = absurd (omega (arith, same))
paired-more (l ∷ ls) (b ∷ bs) line a same = ap (λ xs. logged l b ∷ xs) (paired-more ls bs line a (omega (arith, same)))

pub paired-lines : (lines : List CallLine) (answers : List PlainAnswer) → length answers ≡ length lines → lines_in_log (paired lines answers) ≡ lines
paired-lines [] answers same = refl
paired-lines (l ∷ ls) [] same = absurd (omega (arith, same))
paired-lines (l ∷ ls) (b ∷ bs) same = ap (λ xs. l ∷ xs) (paired-lines ls bs (omega (arith, same)))

pub logged-lines : (log : List LoggedCall) (line : CallLine) (a : PlainAnswer) → lines_in_log (log ++ logged line a ∷ []) ≡ lines_in_log log ++ line ∷ []
logged-lines [] line a = refl
logged-lines (l ∷ ls) line a = ap (λ xs. l.line ∷ xs) (logged-lines ls line a)

-- ---- the last line of a journal

get_end : (front : List Line) (l : Line) → slice_get (front ++ l ∷ []) (length front) ≡ Some l
get_end [] l = refl
get_end (x ∷ front) l = get_end front l

pub last-line : (front : List Line) (l : Line) → slice_get (front ++ l ∷ []) (length (front ++ l ∷ []) - 1) ≡ Some l
last-line front l =
    let place : length (front ++ l ∷ []) - 1 ≡ length front = omega (arith, length-append front (l ∷ [])) in
    ap (slice_get (front ++ l ∷ [])) place ∙ get_end front l

-- ---- each line after those before it

follow_from : (d : ℕ) (earlier lines : List CallLine) (line : CallLine) → AllFollow d earlier lines → MayFollow d (earlier ++ lines) line → AllFollow d earlier (lines ++ line ∷ [])
follow_from d earlier [] line follow may = (subst (λ ls. MayFollow d ls line) (append-nil earlier) may, tt)
follow_from d earlier (k ∷ ks) line follow may =
    (follow.0, follow_from d (earlier ++ k ∷ []) ks line follow.1 (subst (λ ls. MayFollow d ls line) (sym (append_assoc earlier (k ∷ []) ks)) may))

pub follow-more : (d : ℕ) (lines : List CallLine) (line : CallLine) → AllFollow d [] lines → MayFollow d lines line → AllFollow d [] (lines ++ line ∷ [])
follow-more d lines line follow may = follow_from d [] lines line follow may

-- ---- a script that begins with these lines

get_there : (xs : List CallLine) (x : CallLine) (ys : List CallLine) → slice_get (xs ++ x ∷ ys) (length xs) ≡ Some x
get_there [] x ys = refl
get_there (y ∷ xs) x ys = get_there xs x ys

pub next-there : (xs : List CallLine) (x : CallLine) (script : List CallLine) → IsPrefix (xs ++ x ∷ []) script → slice_get script (length xs) ≡ Some x
next-there xs x script begins = ap (λ ls. slice_get ls (length xs)) (begins.1 ∙ append_assoc xs (x ∷ []) begins.0) ∙ get_there xs x begins.0

pub front-of : (xs : List CallLine) (x : CallLine) (script : List CallLine) → IsPrefix (xs ++ x ∷ []) script → IsPrefix xs script
front-of xs x script begins = (x ∷ begins.0, begins.1 ∙ append_assoc xs (x ∷ []) begins.0)
