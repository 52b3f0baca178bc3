-- Journals with more entries at their end: the steps, the traffic and the looks of both parts.
use Rattle.std.proofs.Common.{◌≡◌, ℕ, ◌+◌, ◌≤◌, Bool, true, false, cond, List, [], ◌∷◌, ◌++◌, length, map, sum, Some, None, refl, ap, ◌∙◌, subst, arith, append_assoc, append-nil, length-append, sym}
use Rattle.std.specs.Prelude.{◌==◌}
use Rattle.std.proofs.lemmas.List.{map-append, length-map}
use Rattle.std.proofs.lemmas.List.Concat.{flat_map-append}
use Rattle.std.proofs.lemmas.List.Sums.{sum_by-append}
use Rattle.board_model.specs.declared.scenario.CallLine.{CallLine}
use Rattle.board_model.specs.Journal.{PlainEntry, turned, put, again, waits, called, PlainAnswer, Visit, Taken}
use Rattle.board_model.specs.State.{frames_from}
use Rattle.board_model.specs.Answer.{answer, puts}
use Rattle.board_model.specs.CallChanges.{effect, returned}
use Rattle.board_model.specs.Labels.{labels_after}
use Rattle.board_model.specs.Step.{RunState, Allowed, next_line, call_at, tries_again, effect_of_line, labels_of_line, after, limit_of, MayCome}
use Rattle.board_model.specs.Run.{Leads, after_all}
use Rattle.board_model.specs.Traffic.{visits_to, puts_in, takes_in, put_to, takes_from, taken_from, returned_by, given, backs_in, back_looks}
use Rattle.board_model.specs.Board.{SeeAtMost, SeesAtMost}
use Rattle.board_model.specs.Serial.{put_entry}
use Rattle.board_model.proofs.WholeTakes.{frames_of}
use Rattle.board_model.proofs.WholeCalls.{frames_for}

-- ---- steps

pub leads-append : (script : List CallLine) (old mid new : RunState) (es fs : List PlainEntry) → Leads script old es mid → Leads script mid fs new → Leads script old (es ++ fs) new
leads-append script old mid new [] fs h l = subst (λ (x : RunState). Leads script x fs new) h l
leads-append script old mid new (e ∷ es) fs h l = (h.0, h.1, leads-append script h.0 mid new es fs h.2 l)

-- entries lead to one state
pub leads_to : (script : List CallLine) (old new : RunState) (es : List PlainEntry) → Leads script old es new → new ≡ after_all script old es
leads_to script old new [] h = h
leads_to script old new (e ∷ es) h = leads_to script h.0 new es h.2 ∙ ap (λ (x : RunState). after_all script x es) h.1.leads

-- one entry that is allowed
pub leads_one : (script : List CallLine) (r : RunState) (e : PlainEntry) → Allowed script r e → Leads script r (e ∷ []) (after_all script r (e ∷ []))
leads_one script r e allowed = (after script r e, record { allowed = allowed; leads = refl }, refl)

-- ---- traffic

pub put_to-append : (n : ℕ) (es fs : List PlainEntry) → put_to n (es ++ fs) ≡ put_to n es ++ put_to n fs
put_to-append n es fs = flat_map-append (puts_in n) es fs

pub taken_from-append : (n : ℕ) (es fs : List PlainEntry) → taken_from n (es ++ fs) ≡ taken_from n es ++ taken_from n fs
taken_from-append n es fs = ap frames_of (flat_map-append (takes_in n) es fs) ∙ map-append (λ (t : Taken). t.frame) (takes_from n es) (takes_from n fs)

pub backs-append : (n : ℕ) (es fs : List PlainEntry) → sum (back_looks n (es ++ fs)) ≡ sum (back_looks n es) + sum (back_looks n fs)
backs-append n es fs = ap sum (flat_map-append (backs_in n) es fs) ∙ sum_by-append (λ x. x) (back_looks n es) (back_looks n fs)

pub given-append : (script : List CallLine) (r : RunState) (n : ℕ) (es fs : List PlainEntry) → given script r n (es ++ fs) ≡ given script r n es + given script (after_all script r es) n fs
given-append script r n [] fs = omega arith
given-append script r n (e ∷ es) fs = omega (arith, given-append script (after script r e) n es fs)

pub taken_many : (n : ℕ) (es : List PlainEntry) → length (taken_from n es) ≡ length (takes_from n es)
taken_many n es = length-map (takes_from n es) (λ (t : Taken). t.frame)

-- ---- looks

see-more : (total more t : ℕ) (vs : List Visit) → total ≤ more → SeeAtMost total t vs → SeeAtMost more t vs
see-more total more t [] le h = tt
see-more total more t (v ∷ vs) le h = (omega (arith, h.0), see-more total more (t + length v.takes) vs le h.1)

pub sees-more : (n total more t : ℕ) (es : List PlainEntry) → total ≤ more → SeesAtMost n total t es → SeesAtMost n more t es
sees-more n total more t [] le h = tt
sees-more n total more t (turned vs ∷ es) le h = (see-more total more t (visits_to n vs) le h.0, sees-more n total more (t + length (takes_in n (turned vs))) es le h.1)
sees-more n total more t (put to frame ∷ es) le h = sees-more n total more t es le h
sees-more n total more t (again word ∷ es) le h = sees-more n total more t es le h
sees-more n total more t (waits k ∷ es) le h = sees-more n total more t es le h
sees-more n total more t (called k a ∷ es) le h = sees-more n total more t es le h

pub sees-append : (n total t u : ℕ) (es fs : List PlainEntry) → u ≡ t + length (takes_from n es) → SeesAtMost n total t es → SeesAtMost n total u fs → SeesAtMost n total t (es ++ fs)
sees-append n total t u [] fs e h l = let same : u ≡ t = omega (arith, e) in subst (λ (k : ℕ). SeesAtMost n total k fs) same l
sees-append n total t u (turned vs ∷ es) fs e h l =
    (h.0, sees-append n total (t + length (takes_in n (turned vs))) u es fs (omega (arith, e, length-append (takes_in n (turned vs)) (takes_from n es))) h.1 l)
sees-append n total t u (put to frame ∷ es) fs e h l = sees-append n total t u es fs e h l
sees-append n total t u (again word ∷ es) fs e h l = sees-append n total t u es fs e h l
sees-append n total t u (waits k ∷ es) fs e h l = sees-append n total t u es fs e h l
sees-append n total t u (called k a ∷ es) fs e h l = sees-append n total t u es fs e h l

-- ---- the entries of a call

-- the frames that it puts, and its answer
abbrev pub call_entries : List (ℕ × List ℕ) → ℕ → PlainAnswer → List PlainEntry
call_entries ps k a = map put_entry ps ++ called k a ∷ []

frames_cond : (y : Bool) (frame : List ℕ) (more : List (List ℕ)) → cond y (frame ∷ []) [] ++ more ≡ cond y (frame ∷ more) more
frames_cond true frame more = refl
frames_cond false frame more = refl

pub put_to_call : (n : ℕ) (ps : List (ℕ × List ℕ)) (k : ℕ) (a : PlainAnswer) → put_to n (call_entries ps k a) ≡ frames_for n ps
put_to_call n [] k a = refl
put_to_call n (p ∷ ps) k a = ap (λ xs. cond (p.0 == n) (p.1 ∷ []) [] ++ xs) (put_to_call n ps k a) ∙ frames_cond (p.0 == n) p.1 (frames_for n ps)

pub taken_from_call : (n : ℕ) (ps : List (ℕ × List ℕ)) (k : ℕ) (a : PlainAnswer) → taken_from n (call_entries ps k a) ≡ []
taken_from_call n [] k a = refl
taken_from_call n (p ∷ ps) k a = taken_from_call n ps k a

pub backs_call : (n : ℕ) (ps : List (ℕ × List ℕ)) (k : ℕ) (a : PlainAnswer) → sum (back_looks n (call_entries ps k a)) ≡ 0
backs_call n [] k a = refl
backs_call n (p ∷ ps) k a = backs_call n ps k a

pub sees_call : (n total t : ℕ) (ps : List (ℕ × List ℕ)) (k : ℕ) (a : PlainAnswer) → SeesAtMost n total t (call_entries ps k a)
sees_call n total t [] k a = tt
sees_call n total t (p ∷ ps) k a = sees_call n total t ps k a

-- a run after its turn and some frames
abbrev pub with_puts : RunState → List (ℕ × List ℕ) → RunState
with_puts r ps = record r { put_since_turn = Some ps }

pub given_call : (script : List CallLine) (r : RunState) (n : ℕ) (acc ps : List (ℕ × List ℕ)) (k : ℕ) (a : PlainAnswer) (line : CallLine) → next_line script r ≡ Some line → given script (with_puts r acc) n (call_entries ps k a) ≡ length (frames_from n (returned r.state line.node (call_at r line)))
given_call script r n acc [] k a line here = omega (arith, ap (λ o. length (frames_from n (returned_by o (with_puts r acc)))) here)
given_call script r n acc (p ∷ ps) k a line here = omega (arith, given_call script r n (acc ++ p ∷ []) ps k a line here)

-- a run after the last call of a line
abbrev pub called_run : RunState → CallLine → RunState
called_run r line = record { state = effect r.state line.node (call_at r line); lines_called = r.lines_called + 1; calls_made = 0; labels = labels_after r.labels r.state line; put_since_turn = None; waited = None }

pub after_call : (script : List CallLine) (r : RunState) (acc ps : List (ℕ × List ℕ)) (k : ℕ) (a : PlainAnswer) (line : CallLine) → next_line script r ≡ Some line → after_all script (with_puts r acc) (call_entries ps k a) ≡ called_run r line
after_call script r acc [] k a line here = ap (λ o. record { state = effect_of_line o (with_puts r acc); lines_called = r.lines_called + 1; calls_made = 0; labels = labels_of_line o (with_puts r acc); put_since_turn = None; waited = None }) here
after_call script r acc (p ∷ ps) k a line here = after_call script r (acc ++ p ∷ []) ps k a line here

leads_puts : (script : List CallLine) (r : RunState) (acc ps : List (ℕ × List ℕ)) → Leads script (with_puts r acc) (map put_entry ps) (with_puts r (acc ++ ps))
leads_puts script r acc [] = ap (with_puts r) (append-nil acc)
leads_puts script r acc (p ∷ ps) =
    let later = leads_puts script r (acc ++ p ∷ []) ps in
    (with_puts r (acc ++ p ∷ []), record { allowed = refl; leads = refl }, subst (λ (x : List (ℕ × List ℕ)). Leads script (with_puts r (acc ++ p ∷ [])) (map put_entry ps) (with_puts r x)) (append_assoc acc (p ∷ []) ps) later)

-- the entries of a last call are steps
pub leads_call : (script : List CallLine) (r : RunState) (line : CallLine) → next_line script r ≡ Some line → limit_of line.call ≡ None → tries_again line r (answer r.state line.node (call_at r line)) ≡ false →
    (let ps = puts r.state line.node (call_at r line) in let a = answer r.state line.node (call_at r line) in
    Leads script (with_puts r []) (call_entries ps (r.lines_called + 1) a) (after script (with_puts r ps) (called (r.lines_called + 1) a)))
leads_call script r line here ready last =
    let ps = puts r.state line.node (call_at r line) in
    let a = answer r.state line.node (call_at r line) in
    let new = after script (with_puts r ps) (called (r.lines_called + 1) a) in
    leads-append script (with_puts r []) (with_puts r ps) new (map put_entry ps) (called (r.lines_called + 1) a ∷ []) (leads_puts script r [] ps)
    (new, record { allowed = (line, here, refl, refl, subst (λ o. MayCome o (with_puts r ps) line) (sym ready) refl, last); leads = refl }, refl)
