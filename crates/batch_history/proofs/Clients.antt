-- Those of a list of batches that are of one client.
use Rattle.std.proofs.Common.{◌≡◌, ℕ, Bool, cond, List, [], ◌∷◌, ◌++◌, refl, ap, ◌∙◌, append-nil}
use Rattle.std.specs.Prelude.{◌≢◌, ◌==◌}
use Rattle.std.proofs.lemmas.Bool.{ne_eqb, eq-eqb}
use Rattle.std.proofs.lemmas.List.Elements.{filter-append}
use Rattle.cloud_base.specs.declared.batch.Batch.{Batch}
use Rattle.batch_history.specs.Batches.{of_client}

pub of_client-append : (c : ℕ) (xs ys : List Batch) → of_client c (xs ++ ys) ≡ of_client c xs ++ of_client c ys
of_client-append c xs ys = filter-append (λ b. b.client == c) xs ys

pub of_client-here : (c : ℕ) (b : Batch) (rest : List Batch) → b.client ≡ c → of_client c (b ∷ rest) ≡ b ∷ of_client c rest
of_client-here c b rest e = ap (λ (t : Bool). cond t (b ∷ of_client c rest) (of_client c rest)) (eq-eqb b.client c e)

pub of_client-else : (c : ℕ) (b : Batch) (rest : List Batch) → b.client ≢ c → of_client c (b ∷ rest) ≡ of_client c rest
of_client-else c b rest e = ap (λ (t : Bool). cond t (b ∷ of_client c rest) (of_client c rest)) (ne_eqb b.client c e)

pub of_client-last : (joined : List Batch) (b : Batch) → of_client b.client (joined ++ b ∷ []) ≡ of_client b.client joined ++ b ∷ []
of_client-last joined b = of_client-append b.client joined (b ∷ []) ∙ ap (λ (l : List Batch). of_client b.client joined ++ l) (of_client-here b.client b [] refl)

pub of_client-other : (c : ℕ) (joined : List Batch) (b : Batch) → b.client ≢ c → of_client c (joined ++ b ∷ []) ≡ of_client c joined
of_client-other c joined b e = of_client-append c joined (b ∷ []) ∙ ap (λ (l : List Batch). of_client c joined ++ l) (of_client-else c b [] e) ∙ append-nil (of_client c joined)
