use Rattle.std.proofs.Common.{◌≡◌, ℕ, List, [], length, eqb, Some, None, Option, sym, refl, ap, ◌∙◌}
use Rattle.std.specs.Option.{unwrap_or}
use Rattle.std.proofs.lemmas.Bool.{false≢true}
use denote.Ref.{Bor}
use Rattle.command.specs.Commands.{NextWord}
use Rattle.command.specs.Words.{after, before, rest, trimmed, word}
use Rattle.script.proofs.reading.second_word.Goals as goal

-- the word that is read second; none where the words end before it
second : (line left last : List ℕ) (first next : Option (Bor (List ℕ))) (none : Bor (List ℕ)) → NextWord line first left → NextWord left next last → none.now ≡ [] → (unwrap_or next none).now ≡ word (rest line)
second line left last None None none f n e = e ∙ sym (ap (λ (t : List ℕ). word (after 32 t)) f.0)
second line left last None (Some x) none f n e = absurd (false≢true (sym n.0 ∙ ap (λ (l : List ℕ). eqb (length (trimmed l)) 0) f.1 ∙ ap (λ (t : List ℕ). eqb (length t) 0) f.0))
second line left last (Some w) None none f n e = e ∙ sym (ap word (sym f.2) ∙ ap (before 32) n.0)
second line left last (Some w) (Some x) none f n e = n.1 ∙ ap word f.2

pub returns : goal.returns
returns c = ap (λ (r : Bor (List ℕ)). r.now) c.unwrap_or.ensures ∙ second c.new-words.result _ _ c.next.result c.next-2.result _ c.next.ensures.steps c.next-2.ensures.steps refl ∙ ap (λ (l : List ℕ). word (rest l)) c.new-words.ensures
