-- The lines of numbered calls, each as a line that may follow the earlier lines of its domain: it fits the form of its call, the label that it
-- tells is new, and the label that it names is told above it.
use Rattle.std.proofs.Common.{◌≡◌, ℕ, ◌≤◌, Bool, true, false, List, [], ◌∷◌, ◌++◌, Some, refl, ap, ◌∙◌, arith, eq-eqb}
use Rattle.std.specs.Prelude.{◌&&◌, ◌||◌, ◌==◌, not, decimal, option_map, bytes_eq}
use Rattle.std.specs.List.{list_any}
use Rattle.std.proofs.lemmas.Bool.{or_left, or_right, and_from}
use Rattle.std.proofs.lemmas.List.Folds.{list_any-append}
use Rattle.std.proofs.lemmas.Slice.Eq.{bytes_eq-Decides}
use Rattle.mc_base.specs.Limits.{single_size, try_limit}
use Rattle.board_model.specs.declared.scenario.Call.{Call}
use Rattle.board_model.specs.declared.scenario.Call.TheVariants.{Create, Lookup, MsgSend}
use Rattle.board_model.specs.declared.scenario.CallLine.{CallLine}
use Rattle.board_model.specs.declared.scenario.Scenario.{Scenario}
use Rattle.board_model.specs.declared.form.Callee.{Callee}
use Rattle.board_model.specs.declared.form.Callee.TheVariants as callee
use Rattle.board_model.specs.Scenario.{label_in}
use Rattle.board_model.specs.Grammar.{spaced, argument_texts, form_words, call_words, IsLawfulName}
use Rattle.board_model.specs.FileWords.{is_label}
use Rattle.board_model.specs.Forms.{Values, form, label_of, told_fits, tries_fit, arguments_labels, gives_request}
use Rattle.board_model.specs.LineReasons.{is_domain, tells, is_label_in, tells_wrong_label, names_wrong_label, puts_sound}
use Rattle.board_model.specs.MadeLines.{once, tried, labelled, waited}
use Rattle.board_model.proofs.LawfulForms.{AreFit, call_with}
use Rattle.board_model.proofs.LawfulRanges.{TriesFit}
use Rattle.scenario_lang.proofs.CanonicalCallLines.{FitsHere, line_words, call-read}
use Rattle.board_runner.specs.ActorLogs.{MayFollow, with_calls, is_raw}
use Rattle.call_logs.specs.Roles.{endpoint_of, receive_line}
use Rattle.call_actor.proofs.BytesFit.{FitsLine}

-- ---- what all lines share

-- a line of the domain, with arguments that fit its form and no label out of place
line_may : (d : ℕ) (earlier : List CallLine) (k : CallLine) (c : Callee) (arguments : Values (form c).arguments) → d ≤ 7 → k.domain ≡ d → k.node ≤ 15 → is_raw k.call ≡ false → call_words k.call ≡ form_words c arguments → call_with c arguments ≡ k.call → puts_sound k.call ≡ false → TriesFit k.tries
    → tries_fit (form c).tried (option_map decimal k.tries) ≡ true
    → AreFit (form c).arguments 0 arguments
    → told_fits (form c).labelled (label_in k) ≡ true
    → ((board : Scenario) → (tells_wrong_label (with_calls board earlier) (form c).labelled k.domain (label_in k) || names_wrong_label (with_calls board earlier) k.domain (arguments_labels (form c).arguments (argument_texts (form c).arguments arguments))) ≡ false)
    → MayFollow d earlier k
line_may d earlier k c arguments small own node not_raw says makes faulty tries tried_right fit label_fits label_right = record {
  own = own;
  not_raw = not_raw;
  told = λ board on.
      let fits : FitsHere (with_calls board earlier) k c arguments = record {
        says = says;
        makes = makes;
        told_domain = ap (is_domain board) own ∙ on;
        domain_fits = omega (arith, small, own);
        node_fits = node;
        tries_within = tries;
        tried_right = tried_right;
        arguments_fit = fit;
        label_fits = label_fits;
        label_right = label_right board;
        frame_faulty = faulty;
      } in
      let r = call-read (with_calls board earlier) k c arguments fits in
      record { text = spaced (line_words k); passes = r.passes; tells = r.tells };
}

tries_most : TriesFit (Some try_limit)
tries_most = (omega arith, omega arith)

endpoint_lawful : (d : ℕ) → d ≤ 7 → IsLawfulName (endpoint_of d)
endpoint_lawful d small = (omega (arith, small), omega arith, omega arith)

-- ---- labels among lines

and_false : (b c : Bool) → c ≡ false → (b && c) ≡ false
and_false true c none = none
and_false false c none = refl

-- a line that does not tell the label
pub untold : (d : ℕ) (label : List ℕ) (k : CallLine) → is_label_in label (label_in k) ≡ false → tells d label k ≡ false
untold d label k none = and_false (k.domain == d) (is_label_in label (label_in k)) none

-- the last of these lines tells the label
pub told_last : (d : ℕ) (label : List ℕ) (earlier : List CallLine) (k : CallLine) (may : Call → Bool) → k.domain ≡ d → is_label_in label (label_in k) ≡ true → may k.call ≡ true → list_any (λ c. tells d label c && may c.call) (earlier ++ k ∷ []) ≡ true
told_last d label earlier k may own is allowed =
    let last : ((tells d label k && may k.call) || false) ≡ true = or_left (tells d label k && may k.call) false (and_from (tells d label k) (may k.call) (and_from (k.domain == d) (is_label_in label (label_in k)) (eq-eqb k.domain d own) is) allowed) in
    list_any-append (λ c. tells d label c && may c.call) earlier (k ∷ [])
    ∙ or_right (list_any (λ c. tells d label c && may c.call) earlier) ((tells d label k && may k.call) || false) last

pub label_itself : (label : List ℕ) → bytes_eq label label ≡ true
label_itself label = (bytes_eq-Decides label label).1 refl

-- ---- the lines

module _ (d : ℕ) (earlier : List CallLine) (small : d ≤ 7) where
  pub create_may : MayFollow d earlier (once d (Create 1))
  create_may = line_may d earlier (once d (Create 1)) callee.Create (1, tt) small refl (omega arith) refl refl refl refl tt refl (omega arith, tt) refl (λ board. refl)

  pub send_may : (to priority : ℕ) (bytes : List ℕ) → to ≤ 7 → priority ≤ 3 → FitsLine bytes → MayFollow d earlier (tried d (MsgSend 1 (endpoint_of to) priority bytes))
  send_may to priority bytes low priority_low fits =
      line_may d earlier (tried d (MsgSend 1 (endpoint_of to) priority bytes)) callee.MsgSend (1, (endpoint_of to, (priority, (bytes, tt)))) small refl (omega arith) refl refl refl refl tries_most refl
      (omega arith, (endpoint_lawful to low, (priority_low, ((fits.short, fits.are_bytes), tt)))) refl (λ board. refl)

  pub receive_may : MayFollow d earlier (receive_line d)
  receive_may = line_may d earlier (receive_line d) callee.MsgRecv (1, (single_size, tt)) small refl (omega arith) refl refl refl refl tries_most refl (omega arith, (omega arith, tt)) refl (λ board. refl)

  -- the label is new
  pub lookup_may : (label : List ℕ) (other : ℕ) → other ≤ 7 → is_label label ≡ true → list_any (tells d label) earlier ≡ false → MayFollow d earlier (labelled d label (Lookup (endpoint_of other)))
  lookup_may label other low is fresh =
      line_may d earlier (labelled d label (Lookup (endpoint_of other))) callee.Lookup (endpoint_of other, tt) small refl (omega arith) refl refl refl refl tt refl (endpoint_lawful other low, tt) is (λ board. ap (λ (b : Bool). b || false) fresh)

  -- the label is told above, and its call gives a request
  pub wait_may : (label : List ℕ) → is_label label ≡ true → list_any (λ c. tells d label c && gives_request c.call) earlier ≡ true → MayFollow d earlier (waited d label)
  wait_may label is told =
      line_may d earlier (waited d label) callee.Wait (label_of label, (try_limit, tt)) small refl (omega arith) refl refl refl refl tt refl (is, (omega arith, tt)) refl (λ board. ap (λ (b : Bool). not b || false) told)
