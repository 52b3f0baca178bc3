use Rattle.std.proofs.Common.{◌≡◌, ◌+◌, ◌-◌, ◌<◌, ◌≤◌, ℕ, List, [], ◌∷◌, ◌++◌, length, get_or, take, drop, Option, None, Some, option_map, Result, Ok, Err, IfOk, IsOk, Bor, refl, sym, ap, subst, ◌∙◌, arith}
use Rattle.std.specs.List.{AllByRecursion}
use Rattle.board_model.specs.declared.scenario.DomainLine.{DomainLine}
use Rattle.board_model.specs.declared.scenario.Scenario.{Scenario}
use Rattle.board_model.specs.Grammar.{IsLawfulDomain}
use Rattle.mc_journal.specs.Readers.{cut_at}
use Rattle.board_model.specs.State.{DomainState}
use Rattle.report_text.specs.declared.link_pass.JournalLines.{JournalLines}
use Rattle.report_text.specs.declared.verdict.Verdict.{Verdict}
use Rattle.report_text.specs.LaneLeft.{IsShort, AreShort}
use Rattle.report_text.specs.Verdicts.{by_steps}
use Rattle.report_text.specs.JournalRead.{JournalText, told_texts, journals_at}
use Rattle.report_text.specs.TextLines.{lines_in}
use Rattle.report_text.specs.TextPass.{journals_from}
use Rattle.report_text.proofs.LeftLemmas.{whole}
use Rattle.report_text.proofs.ReportsTold.{lines-end}
use Rattle.report_text.proofs.TextCuts.{lines-cut, longest-cut}
use Rattle.report_check.specs.declared.steps.Walked.TheVariants as walked
use Rattle.report_check.specs.declared.walks.Walks.{Walks}
use Rattle.report_check.specs.Walked.{IsInOrder, IsWalked, journal_read}
use Rattle.report_check.specs.Walks.{AreReady, WalksOn, left_of}
use Rattle.report_check.proofs.WalksTold.{IsWalkedOver, no-heading, headed, walks-more, walks-wrong, walked-over, behind-counted, behind-short, all-more}
use Rattle.report_check.proofs.walks.Walks.+walk_on.Goals as goal

abbrev no_line : DomainLine
no_line = record { domain = 0; nodes = 0; pool = 0 }

abbrev first : List DomainLine → DomainLine
first ds = get_or ds 0 no_line

abbrev others : List DomainLine → List DomainLine
others ds = take (length ds - 1) (drop 1 ds)

split : (ds : List DomainLine) → 1 ≤ length ds → ds ≡ first ds ∷ others ds
split [] some = absurd (omega (arith, some))
split (d ∷ ds) some = ap (λ es. d ∷ es) (sym (whole (length (d ∷ ds) - 1) ds (omega arith)))

pub returns-in_default-cut-clause-walks : goal.returns-in_default-cut-clause-walks
returns-in_default-cut-clause-walks t c =
    let none : cut_at 10 c.args.self.now.behind.now ≡ None = sym c.cut.ensures.value ∙ ap (option_map _) c.in_default-cut.is in
    absurd (no-heading c.args.scenario.now c.args.lines.now c.args.self.now.line c.args.self.now.behind.now (omega (arith, c.in-len1-up.len_at_least)) none c.requires.text)

pub walk-requires-clause-order : goal.walk-requires-clause-order
walk-requires-clause-order t c =
    let ds : List DomainLine = c.args.lines.now in
    let are = split ds (omega (arith, c.in-len1-up.len_at_least)) in
    let cut : cut_at 10 c.args.self.now.behind.now ≡ Some _ = sym c.cut.ensures.value ∙ ap (option_map _) c.in-Some.is in
    let text : drop 1 (lines_in c.args.self.now.behind.now) ≡ lines_in c.in-Some.text.now = ap (drop 1) (lines-cut c.args.self.now.behind.now _ cut) in
    let lawful = subst (AllByRecursion IsLawfulDomain) are c.requires.domains in
    let in-order = headed c.args.scenario.now c.requires.lawful (first ds) (others ds) (left_of c.args.self.now) (lines-end c.args.self.now.behind.now) lawful.0 (subst (λ es. IsOk (journals_from c.args.scenario.now es (left_of c.args.self.now))) are c.requires.text) in
    subst (IsInOrder c.args.scenario.now) (ap (λ ls. journal (first ds) (c.args.self.now.line + 1) (told_texts ls)) text) in-order.0
  where
    journal : DomainLine → ℕ → List (List ℕ) → JournalText
    journal d n ts = record { line = d; number = n; texts = ts }

pub walk-requires-clause-short : goal.walk-requires-clause-short
walk-requires-clause-short t c =
    let cut : cut_at 10 c.args.self.now.behind.now ≡ Some _ = sym c.cut.ensures.value ∙ ap (option_map _) c.in-Some.is in
    record {
      line = omega (arith, longest-cut c.args.self.now.behind.now _ cut, c.requires.ready.line);
      count = omega (arith, c.requires.ready.count, c.in-Some.ensures.shorter);
    }

shorter : (ds : List DomainLine) → 1 ≤ length ds → length (others ds) < length ds
shorter [] some = absurd (omega (arith, some))
shorter (d ∷ ds) some = subst (λ (es : List DomainLine). length es < length (d ∷ ds)) (sym (whole (length (d ∷ ds) - 1) ds (omega arith))) (omega arith)

-- the journal that was walked is the next one
over : (s : Scenario) (d : DomainLine) (old mid : Walks) (text : Bor (List ℕ)) (x : DomainState) (g : List (List ℕ)) (line : ℕ) (b : Bor (List ℕ)) → drop 1 (lines_in old.behind.now) ≡ lines_in text.now
    → IsWalked s (journal_read d (record { domain = d.domain; number = old.line + 1; text = text })) text.now (walked.Right x g line b)
    → mid.line ≡ line → mid.behind ≡ b → mid.journals.items ≡ old.journals.items ++ record { domain = d.domain; number = old.line + 1; text = text } ∷ [] → mid.states.items ≡ old.states.items ++ x ∷ [] → mid.given.items ≡ old.given.items ++ g ∷ [] → IsWalkedOver s d old mid
over s d old mid text x g line b is right line-is behind-is journals states places =
    let told = ap told_texts is in
    walked-over s d old mid text.now (record { domain = d.domain; number = old.line + 1; text = text }) x g b line (sym is) (record { domain = refl; number = refl; texts = told })
    (subst (λ ts. IsWalked s (record { line = d; number = old.line + 1; texts = ts }) text.now (walked.Right x g line b)) (sym told) right) line-is behind-is journals states places

walks-back : {E : Type 0} (s : Scenario) (ds : List DomainLine) (old mid new : Walks) (r : Result (Option Verdict) E) → 1 ≤ length ds → IsWalkedOver s (first ds) old mid → IfOk r (λ v. WalksOn s (others ds) mid new v) → IfOk r (λ v. WalksOn s ds old new v)
walks-back s ds old mid new (Err e) some one rest = tt
walks-back s ds old mid new (Ok v) some one rest = subst (λ es. WalksOn s es old new v) (sym (split ds some)) (walks-more s (first ds) (others ds) old mid new v one rest)

pub walk_on-requires : goal.walk_on-requires
walk_on-requires t c =
    let ds : List DomainLine = c.args.lines.now in
    let some : 1 ≤ length ds = omega (arith, c.in-len1-up.len_at_least) in
    let are = split ds some in
    let cut : cut_at 10 c.args.self.now.behind.now ≡ Some _ = sym c.cut.ensures.value ∙ ap (option_map _) c.in-Some.is in
    let text : drop 1 (lines_in c.args.self.now.behind.now) ≡ lines_in c.in-Some.text.now = ap (drop 1) (lines-cut c.args.self.now.behind.now _ cut) in
    let lawful = subst (AllByRecursion IsLawfulDomain) are c.requires.domains in
    let mid : Walks = record { journals = c.add.new.self.journals; states = c.add.new.self.states; given = c.add.new.self.given; line = c.in-Right.line; behind = c.in-Right.behind } in
    let right = subst (IsWalked c.args.scenario.now (record { line = first ds; number = c.args.self.now.line + 1; texts = told_texts (lines_in c.in-Some.text.now) }) c.in-Some.text.now) c.in-Right.is c.in_ok-state.ensures in
    let one = over c.args.scenario.now (first ds) c.args.self.now mid c.in-Some.text c.in-Right.state c.in-Right.given c.in-Right.line c.in-Right.behind text right refl refl (c.in_ok-add-in-Right.ensures.journals) (c.in_ok-add-in-Right.ensures.states) (c.in_ok-add-in-Right.ensures.given) in
    let in-order = headed c.args.scenario.now c.requires.lawful (first ds) (others ds) (left_of c.args.self.now) (lines-end c.args.self.now.behind.now) lawful.0 (subst (λ es. IsOk (journals_from c.args.scenario.now es (left_of c.args.self.now))) are c.requires.text) in
    let small = lawful.0.domain_fits in
    let counted = behind-counted c.in-Some.text.now c.in-Right.behind.now c.in-Right.line (c.args.self.now.line + 1) right.4 in
    let fits = behind-short c.in-Some.text.now c.in-Right.behind.now c.in-Right.line _ right.4 in
    let longest = longest-cut c.args.self.now.behind.now _ cut in
    let journal : JournalLines = record { domain = (first ds).domain; number = c.args.self.now.line + 1; text = c.in-Some.text } in
    let text-ok = subst (λ r. IsOk (journals_from c.args.scenario.now (others ds) r)) (sym one.left) in-order.1 in
    let domains = subst (AllByRecursion (λ x. x.domain < 8)) (sym c.in_ok-add-in-Right.ensures.journals) (all-more (λ (x : JournalLines). x.domain < 8) c.args.self.now.journals.items journal c.requires.ready.domains (omega (arith, small))) in
    let is-short : IsShort (length c.walk.new.room) journal = record {
      line = omega (arith, longest, c.requires.ready.line, c.walk.auto.room);
      count = omega (arith, c.requires.ready.count, c.in-Some.ensures.shorter);
    } in
    let still : length c.walk.new.room ≡ length c.args.room.now = omega (arith, c.walk.auto.room) in
    let before = subst (λ (n : ℕ). AreShort n c.args.self.now.journals.items) (sym still) c.requires.ready.short in
    let ready : AreReady (length c.walk.new.room) 4294967295 mid = record {
      domains = domains;
      short = subst (AreShort (length c.walk.new.room)) (sym c.in_ok-add-in-Right.ensures.journals) (all-more (IsShort (length c.walk.new.room)) c.args.self.now.journals.items journal before is-short);
      line = omega (arith, c.requires.ready.line, longest, fits, c.walk.auto.room);
      count = omega (arith, counted, c.requires.ready.count, c.in-Some.ensures.shorter);
    } in
    (omega (arith, shorter ds some, c.decreases), (c.requires.lawful, (lawful.1, (text-ok, ready))))

pub returns-in_ok-add-in-Right-clause-walks : goal.returns-in_ok-add-in-Right-clause-walks
returns-in_ok-add-in-Right-clause-walks t c =
    let ds : List DomainLine = c.args.lines.now in
    let some : 1 ≤ length ds = omega (arith, c.in-len1-up.len_at_least) in
    let cut : cut_at 10 c.args.self.now.behind.now ≡ Some _ = sym c.cut.ensures.value ∙ ap (option_map _) c.in-Some.is in
    let text : drop 1 (lines_in c.args.self.now.behind.now) ≡ lines_in c.in-Some.text.now = ap (drop 1) (lines-cut c.args.self.now.behind.now _ cut) in
    let mid : Walks = record { journals = c.add.new.self.journals; states = c.add.new.self.states; given = c.add.new.self.given; line = c.in-Right.line; behind = c.in-Right.behind } in
    let right = subst (IsWalked c.args.scenario.now (record { line = first ds; number = c.args.self.now.line + 1; texts = told_texts (lines_in c.in-Some.text.now) }) c.in-Some.text.now) c.in-Right.is c.in_ok-state.ensures in
    let one = over c.args.scenario.now (first ds) c.args.self.now mid c.in-Some.text c.in-Right.state c.in-Right.given c.in-Right.line c.in-Right.behind text right refl refl (c.in_ok-add-in-Right.ensures.journals) (c.in_ok-add-in-Right.ensures.states) (c.in_ok-add-in-Right.ensures.given) in
    walks-back c.args.scenario.now ds c.args.self.now mid c.walk_on.new.self c.walk_on.result some one c.walk_on.ensures.walks

pub returns-in-Wrong-clause-walks : goal.returns-in-Wrong-clause-walks
returns-in-Wrong-clause-walks t c = λ next.
    let ds : List DomainLine = c.args.lines.now in
    let are = split ds (omega (arith, c.in-len1-up.len_at_least)) in
    let cut : cut_at 10 c.args.self.now.behind.now ≡ Some _ = sym c.cut.ensures.value ∙ ap (option_map _) c.in-Some.is in
    let text : drop 1 (lines_in c.args.self.now.behind.now) ≡ lines_in c.in-Some.text.now = ap (drop 1) (lines-cut c.args.self.now.behind.now _ cut) in
    let wrong = subst (IsWalked c.args.scenario.now (record { line = first ds; number = c.args.self.now.line + 1; texts = told_texts (lines_in c.in-Some.text.now) }) c.in-Some.text.now) c.in-Wrong.is c.in_ok-state.ensures in
    let at = subst (λ ts. IsWalked c.args.scenario.now (record { line = first ds; number = c.args.self.now.line + 1; texts = ts }) c.in-Some.text.now (walked.Wrong c.in-Wrong.line c.in-Wrong.reason)) (sym (ap told_texts text)) wrong in
    ap (λ es. by_steps c.args.scenario.now (journals_at es (left_of c.args.self.now)) next) are
    ∙ walks-wrong c.args.scenario.now (first ds) (others ds) c.args.self.now c.args.self.now c.in-Some.text.now c.in-Wrong.line c.in-Wrong.reason at next
