use Rattle.std.proofs.Common.{rules, ◌≡◌, ◌∙◌, not, ap, List, ℕ, [], ◌∷◌, ◌++◌}
use Rattle.std.specs.List.{filter, list_all}
use Rattle.std.proofs.lemmas.Bool.{and_parts}
use Rattle.prime_implicants.specs.DenseClauses.{is_stronger, all_unfalsified}
use Rattle.prime_implicants.proofs.DenseClauseLaws.{all_unfalsified-known, all_unfalsified-kept, all_unfalsified-push, list_all-filter, list_all-push}
use Rattle.prime_implicants.proofs.dense_clauses.insert_minimal.Goals as goal

pub returns-then-is_known-clause-unfalsified : goal.returns-then-is_known-clause-unfalsified
returns-then-is_known-clause-unfalsified c = λ q. all_unfalsified-known q c.args.row c.args.rows.now.items c.requires (search rules)

pub returns-clause-unfalsified : goal.returns-clause-unfalsified
returns-clause-unfalsified c = λ q.
    let new : c.push.new.self.items ≡ filter (λ (old : List ℕ). not (is_stronger c.args.row old)) c.args.rows.now.items ++ (c.args.row ∷ []) = search rules in
    ap (all_unfalsified q) new ∙ all_unfalsified-push q c.args.row _ ∙ all_unfalsified-kept q c.args.row c.args.rows.now.items c.requires

pub returns-clause-same : goal.returns-clause-same
returns-clause-same c = λ p h.
    let new : c.push.new.self.items ≡ filter (λ (old : List ℕ). not (is_stronger c.args.row old)) c.args.rows.now.items ++ (c.args.row ∷ []) = search rules in
    let both = and_parts (p c.args.row) (list_all p c.args.rows.now.items) h in
    ap (list_all p) new ∙ list_all-push p _ c.args.row (list_all-filter p _ _ both.1) both.0
