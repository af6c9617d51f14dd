use Rattle.std.proofs.Common.{rules, replicate, ◌≡◌, ◌++◌, length, drop, sym, ap, ◌∙◌}
use Rattle.std.proofs.lemmas.List.{drop-replicate}
use Rattle.names.proofs.Spelling.{held_yes}
use Rattle.names.proofs.name.Name.from_text.Goals as goal

pub returns-then-is_name_text : goal.returns-then-is_name_text
returns-then-is_name_text c =
    let text = c.args.text.now in
    let copied : c.copy_from_slice.new.self ≡ text = search rules in
    ap (λ x. x ++ drop (length text) (replicate 48 0)) copied ∙ ap (λ x. text ++ x) (drop-replicate (length text) 48 0) ∙ sym (held_yes text (sym c.if-is_name_text.ensures))
