use Rattle.std.proofs.Common.{sym, ◌≡◌, ◌∙◌, ◌∷◌, ◌++◌, [], rules, drop, take, false}
use Rattle.board_model.specs.FileLines.{words_of, ends_word}
use Rattle.scenario_lang.proofs.FrontLemmas.{ends_word-first, word_front-taken, words_grown}
use Rattle.scenario_lang.proofs.lines.find_words.Goals as goal

pub loop-rest-preserved : goal.loop-rest-preserved
loop-rest-preserved c =
    let first = c.word_length.ensures in
    let begun : ends_word c.loop-rest.rest.now ≡ false = ends_word-first c.loop-rest.rest.now c.in-len1-up.len_at_least ∙ sym c.is_blank.ensures ∙ c.if-is_blank.false in
    let read : words_of c.loop-rest.rest.now ≡ take c.word_length.result c.loop-rest.rest.now ∷ words_of (drop c.word_length.result c.loop-rest.rest.now) = word_front-taken _ _ first.front first.end c.in-len1-up.len_at_least begun in
    let grown : c.push.new.self.items ≡ c.loop-rest.words.items ++ c.split_at.result.0 ∷ [] = search rules in
    rw c.split_at.ensures.back
    (words_grown c.loop-rest.words.items c.push.new.self.items c.split_at.result.0 _ _ _ _ grown c.split_at.ensures.front read c.loop-rest.invariant)
