-- A root's log as the code reads it. Assumes nothing.
use Rattle.std.proofs.Common.{◌≡◌, ℕ, ◌+◌, ◌<◌, ◌≤◌, Bool, true, cond, List, [], ◌∷◌, ◌++◌, All, map, length, get_or, take, drop, Some, None, vec_items, vec_len, sym, ap, ◌∙◌, subst, arith}
use Rattle.std.specs.Option.{option_map}
use Rattle.std.proofs.lemmas.List.{length-map, length-drop, get_or-map, map_push, same_lists, take_all, take-append-le, drop-append-le, drop_at}
use Rattle.names.specs.declared.name.Name.{Name}
use Rattle.zone.specs.declared.rows.Row.{Row}
use Rattle.zone.specs.Comparing.{same_rows}
use Rattle.zone.specs.Intervals.{era, within}
use Rattle.zone.specs.Refusals.{Outcome, refused}
use Rattle.zone.specs.Rows.{Sound, table_rows}
use Rattle.provider.specs.declared.requests.Request.{Request}
use Rattle.provider.specs.Fetching.{Answer, page_answer, inside_answer, edition_answer}
use Rattle.provider.specs.Meaning.{Page}
use Rattle.root.specs.declared.entries.Entry.{Entry}
use Rattle.root.specs.declared.roots.Root.{Root}
use Rattle.root.specs.Logs.{Publication, publication, log, no_entry, latest, page, pages, tag_after, tag_for, add}
use Rattle.root.specs.Order.{InOrder}
use Rattle.root.specs.Roots.{log_of}
use Rattle.root.proofs.Logged.{pages_last, latest_stands}

pub log_count : (s : Root) → vec_len s.entries ≡ length (log_of s)
log_count s = s.entries.ok.0 ∙ sym (length-map (vec_items s.entries) (publication (vec_items s.rows)))

-- what the latest edition answers
pub answers_none : (s : Root) (q : Request) (e : ℕ) → e ≡ vec_len s.entries → latest q.name (log_of s) ≡ None → ◌≡◌ {A = Outcome Answer} (refused 5 (e ∷ [])) (edition_answer (vec_len s.entries) q (pages (log_of s) (vec_len s.entries) q.name))
answers_none s q e h l =
    ap (λ x. refused 5 (x ∷ [])) h ∙ sym (ap (edition_answer (vec_len s.entries) q) (pages_last (log_of s) (vec_len s.entries) q.name (log_count s) ∙ ap (option_map page) l))

pub answers_some : (s : Root) (q : Request) (e : ℕ) (p : Publication) (tag : ℕ) (rows : List Row) → e ≡ vec_len s.entries → latest q.name (log_of s) ≡ Some p → within q.interval era ≡ true → tag ≡ p.tag → rows ≡ p.rows → inside_answer era e q (record { tag = tag; rows = rows }) ≡ edition_answer (vec_len s.entries) q (pages (log_of s) (vec_len s.entries) q.name)
answers_some s q e p tag rows h l w t r =
    let tagged : ℕ → Page = λ x. record { tag = x; rows = rows } in
    let listed : List Row → Page = λ x. record { tag = p.tag; rows = x } in
    let same : ◌≡◌ {A = Page} (record { tag = tag; rows = rows }) (page p) = ap tagged t ∙ ap listed r in
    rw w (ap (page_answer e q) same ∙ (ap (λ x. page_answer x q (page p)) h ∙ sym (ap (edition_answer (vec_len s.entries) q) (pages_last (log_of s) (vec_len s.entries) q.name (log_count s) ∙ ap (option_map page) l))))

pub table_held : (log : List Publication) (n : Name) (p : Publication) → InOrder log → latest n log ≡ Some p → Sound table_rows era p.rows
table_held log n p o l =
    let f = latest_stands log n p l in
    subst (λ (x : Publication). Sound table_rows era x.rows) f.2 (o.tables f.0 f.1)

-- the tag of the next publication
pub tag_none : (s : Root) (n : Name) (rows : List Row) (number : ℕ) → number ≡ vec_len s.entries → latest n (log_of s) ≡ None → number + 1 ≡ tag_for (log_of s) n rows
tag_none s n rows number h l = ap (λ x. x + 1) (h ∙ log_count s) ∙ sym (ap (tag_after (length (log_of s) + 1) rows) l)

pub tag_some : (s : Root) (n : Name) (rows stored : List Row) (p : Publication) (same : Bool) (tag number : ℕ) → latest n (log_of s) ≡ Some p → stored ≡ p.rows → same ≡ same_rows stored rows → tag ≡ p.tag → number ≡ vec_len s.entries → cond same tag (number + 1) ≡ tag_for (log_of s) n rows
tag_some s n rows stored p same tag number l r b t h =
    ap (λ x. cond x tag (number + 1)) (b ∙ ap (λ x. same_rows x rows) r) ∙ (ap (λ x. cond (same_rows p.rows rows) x (number + 1)) t ∙ (ap (λ x. cond (same_rows p.rows rows) p.tag (x + 1)) (h ∙ log_count s) ∙ sym (ap (tag_after (length (log_of s) + 1) rows) l)))

-- the rows of an entry lie in the storage
abbrev pub Inside : List Entry → List Row → Type 0
Inside es storage = All (λ (e : Entry). e.start + e.len ≤ length storage) es

publication_kept : (storage more : List Row) (e : Entry) → e.start + e.len ≤ length storage → publication (storage ++ more) e ≡ publication storage e
publication_kept storage more e h =
    let made : List Row → Publication = λ rows. record { name = e.name; tag = e.tag; rows = rows } in
    let d = drop-append-le e.start storage more (omega arith) in
    let k : e.len ≤ length (drop e.start storage) = simp length-drop (omega arith) in
    ap made (ap (take e.len) d ∙ take-append-le e.len (drop e.start storage) more k)

publication_last : (storage more : List Row) (e : Entry) → e.start ≡ length storage → e.len ≡ length more → publication (storage ++ more) e ≡ record { name = e.name; tag = e.tag; rows = more }
publication_last storage more e h k =
    let made : List Row → Publication = λ rows. record { name = e.name; tag = e.tag; rows = rows } in
    ap made (ap (take e.len) (drop_at storage more e.start (sym h)) ∙ take_all e.len more (omega arith))

log_kept : (es : List Entry) (storage more : List Row) → Inside es storage → log es (storage ++ more) ≡ log es storage
log_kept es storage more inside =
    let wide = publication (storage ++ more) in
    let f = publication storage in
    same_lists (map wide es) (map f es) (length-map es wide ∙ sym (length-map es f)) (λ k d h. let l : k < length es = simp length-map at h in get_or-map wide es k no_entry d l ∙ (publication_kept storage more (get_or es k no_entry) (inside k no_entry l) ∙ sym (get_or-map f es k no_entry d l)))

-- the log after one entry and its rows more
pub added_log : (s : Root) (n : Name) (rows : List Row) (es : List Entry) (storage : List Row) (e : Entry) → es ≡ vec_items s.entries ++ e ∷ [] → storage ≡ vec_items s.rows ++ rows → e.name ≡ n → e.start ≡ length (vec_items s.rows) → e.len ≡ length rows → e.tag ≡ tag_for (log_of s) n rows → log es storage ≡ add (log_of s) n rows
added_log s n rows es storage e p q name start len tag =
    let named : Name → Publication = λ x. record { name = x; tag = e.tag; rows = rows } in
    let tagged : ℕ → Publication = λ x. record { name = n; tag = x; rows = rows } in
    let last = publication_last (vec_items s.rows) rows e start len ∙ (ap named name ∙ ap tagged tag) in
    ap (λ x. log x storage) p ∙ (ap (λ x. log (vec_items s.entries ++ e ∷ []) x) q ∙ (map_push (publication (vec_items s.rows ++ rows)) (vec_items s.entries) e ∙ (ap (λ x. x ++ publication (vec_items s.rows ++ rows) e ∷ []) (log_kept (vec_items s.entries) (vec_items s.rows) rows s.inside) ∙ ap (λ x. log_of s ++ x ∷ []) last)))
