-- One turn of each loop over declarations, items and clients.
use Rattle.std.proofs.Common.{◌≡◌, ◌∙◌, refl, ap, arith}
use Rattle.std.specs.Prelude.{ℕ, zero, suc, ◌+◌, ◌-◌, ◌<◌, List, [], ◌∷◌, ◌++◌, Some, None}
use Rattle.source_tokens.specs.declared.terminal.Terminal.TheVariants as t
use Rattle.source_tokens.specs.declared.token.Token.{Token}
use Rattle.source_tree.specs.declared.statement.Statement.{Statement}
use Rattle.source_tree.specs.declared.program.Key.{Key}
use Rattle.source_tree.specs.declared.program.Property.{Property}
use Rattle.source_tree.specs.declared.program.Declaration.{Declaration}
use Rattle.source_tree.specs.declared.program.Item.{Item}
use Rattle.source_tree.specs.declared.program.Client.{Client}
use Rattle.source_reader.specs.Reading.{Reads, ◌>>=◌, behind}
use Rattle.source_reader.specs.Sources.{key_at, key_list_by, property_at, properties_by, declaration_at, declared_by, item_at, items_by, client_by, clients_by}

pub key_list_step : (m n : ℕ) (xs : List Key) (x : Key) (tokens after rest : List Token) → n < m → key_at tokens ≡ Some (x, after) → behind t.Comma after ≡ Some rest
    → key_list_by (m - n) xs tokens ≡ key_list_by (m - (n + 1)) (xs ++ x ∷ []) rest
unfolding key_list_by
key_list_step m n xs x tokens after rest more read is =
    let count : m - n ≡ suc (m - (n + 1)) = omega arith in
    rw (count, key_list_by, read) (ap (λ o. elim o [ Some rest ↦ key_list_by (m - (n + 1)) (xs ++ x ∷ []) rest | None ↦ behind t.CloseBracket after >>= λ rest. Some (xs ++ x ∷ [], rest) ]) is)

pub key_list_end : (m n : ℕ) (xs : List Key) (x : Key) (tokens after : List Token) → n < m → key_at tokens ≡ Some (x, after) → behind t.Comma after ≡ None
    → key_list_by (m - n) xs tokens ≡ (behind t.CloseBracket after >>= λ rest. Some (xs ++ x ∷ [], rest))
unfolding key_list_by
key_list_end m n xs x tokens after more read is =
    let count : m - n ≡ suc (m - (n + 1)) = omega arith in
    rw (count, key_list_by, read) (ap (λ o. elim o [ Some rest ↦ key_list_by (m - (n + 1)) (xs ++ x ∷ []) rest | None ↦ behind t.CloseBracket after >>= λ rest. Some (xs ++ x ∷ [], rest) ]) is)

pub key_list_closed : (m n : ℕ) (xs : List Key) (x : Key) (tokens after rest : List Token) → n < m → key_at tokens ≡ Some (x, after) → behind t.Comma after ≡ None → behind t.CloseBracket after ≡ Some rest
    → key_list_by (m - n) xs tokens ≡ Some (xs ++ x ∷ [], rest)
key_list_closed m n xs x tokens after rest more read is closed = key_list_end m n xs x tokens after more read is ∙ ap (λ o. o >>= λ rest. Some (xs ++ x ∷ [], rest)) closed

pub key_list_fails : (m n : ℕ) (xs : List Key) (tokens : List Token) → n < m → key_at tokens ≡ None → key_list_by (m - n) xs tokens ≡ None
unfolding key_list_by
key_list_fails m n xs tokens more read = let count : m - n ≡ suc (m - (n + 1)) = omega arith in rw (count, key_list_by, read) refl

pub property_list_closed : (m n : ℕ) (xs : List Property) (tokens rest : List Token) → n < m → behind t.CloseBrace tokens ≡ Some rest → properties_by (m - n) xs tokens ≡ Some (xs, rest)
unfolding properties_by
property_list_closed m n xs tokens rest more is =
    let count : m - n ≡ suc (m - (n + 1)) = omega arith in
    rw (count, properties_by) (ap (λ o. elim o [ Some rest ↦ Some (xs, rest) | None ↦ property_at tokens >>= λ property. elim (behind t.Semicolon property.1) [ Some rest ↦ properties_by (m - (n + 1)) (xs ++ property.0 ∷ []) rest | None ↦ behind t.CloseBrace property.1 >>= λ rest. Some (xs ++ property.0 ∷ [], rest) ] ]) is)

pub property_list_fails : (m n : ℕ) (xs : List Property) (tokens : List Token) → n < m → behind t.CloseBrace tokens ≡ None → property_at tokens ≡ None → properties_by (m - n) xs tokens ≡ None
unfolding properties_by
property_list_fails m n xs tokens more is read =
    let count : m - n ≡ suc (m - (n + 1)) = omega arith in
    rw (count, properties_by) (ap (λ o. elim o [ Some rest ↦ Some (xs, rest) | None ↦ property_at tokens >>= λ property. elim (behind t.Semicolon property.1) [ Some rest ↦ properties_by (m - (n + 1)) (xs ++ property.0 ∷ []) rest | None ↦ behind t.CloseBrace property.1 >>= λ rest. Some (xs ++ property.0 ∷ [], rest) ] ]) is ∙ ap (λ o. o >>= λ property. elim (behind t.Semicolon property.1) [ Some rest ↦ properties_by (m - (n + 1)) (xs ++ property.0 ∷ []) rest | None ↦ behind t.CloseBrace property.1 >>= λ rest. Some (xs ++ property.0 ∷ [], rest) ]) read)

pub property_list_step : (m n : ℕ) (xs : List Property) (x : Property) (tokens after rest : List Token) → n < m → behind t.CloseBrace tokens ≡ None → property_at tokens ≡ Some (x, after)
    → behind t.Semicolon after ≡ Some rest → properties_by (m - n) xs tokens ≡ properties_by (m - (n + 1)) (xs ++ x ∷ []) rest
unfolding properties_by
property_list_step m n xs x tokens after rest more is read next =
    let count : m - n ≡ suc (m - (n + 1)) = omega arith in
    rw (count, properties_by) (ap (λ o. elim o [ Some rest ↦ Some (xs, rest) | None ↦ property_at tokens >>= λ property. elim (behind t.Semicolon property.1) [ Some rest ↦ properties_by (m - (n + 1)) (xs ++ property.0 ∷ []) rest | None ↦ behind t.CloseBrace property.1 >>= λ rest. Some (xs ++ property.0 ∷ [], rest) ] ]) is ∙ ap (λ o. o >>= λ property. elim (behind t.Semicolon property.1) [ Some rest ↦ properties_by (m - (n + 1)) (xs ++ property.0 ∷ []) rest | None ↦ behind t.CloseBrace property.1 >>= λ rest. Some (xs ++ property.0 ∷ [], rest) ]) read ∙ ap (λ o. elim o [ Some rest ↦ properties_by (m - (n + 1)) (xs ++ x ∷ []) rest | None ↦ behind t.CloseBrace after >>= λ rest. Some (xs ++ x ∷ [], rest) ]) next)

pub property_list_end : (m n : ℕ) (xs : List Property) (x : Property) (tokens after : List Token) → n < m → behind t.CloseBrace tokens ≡ None → property_at tokens ≡ Some (x, after)
    → behind t.Semicolon after ≡ None → properties_by (m - n) xs tokens ≡ (behind t.CloseBrace after >>= λ rest. Some (xs ++ x ∷ [], rest))
unfolding properties_by
property_list_end m n xs x tokens after more is read next =
    let count : m - n ≡ suc (m - (n + 1)) = omega arith in
    rw (count, properties_by) (ap (λ o. elim o [ Some rest ↦ Some (xs, rest) | None ↦ property_at tokens >>= λ property. elim (behind t.Semicolon property.1) [ Some rest ↦ properties_by (m - (n + 1)) (xs ++ property.0 ∷ []) rest | None ↦ behind t.CloseBrace property.1 >>= λ rest. Some (xs ++ property.0 ∷ [], rest) ] ]) is ∙ ap (λ o. o >>= λ property. elim (behind t.Semicolon property.1) [ Some rest ↦ properties_by (m - (n + 1)) (xs ++ property.0 ∷ []) rest | None ↦ behind t.CloseBrace property.1 >>= λ rest. Some (xs ++ property.0 ∷ [], rest) ]) read ∙ ap (λ o. elim o [ Some rest ↦ properties_by (m - (n + 1)) (xs ++ x ∷ []) rest | None ↦ behind t.CloseBrace after >>= λ rest. Some (xs ++ x ∷ [], rest) ]) next)

pub property_list_last : (m n : ℕ) (xs : List Property) (x : Property) (tokens after rest : List Token) → n < m → behind t.CloseBrace tokens ≡ None → property_at tokens ≡ Some (x, after)
    → behind t.Semicolon after ≡ None → behind t.CloseBrace after ≡ Some rest → properties_by (m - n) xs tokens ≡ Some (xs ++ x ∷ [], rest)
property_list_last m n xs x tokens after rest more is read next closed = property_list_end m n xs x tokens after more is read next ∙ ap (λ o. o >>= λ rest. Some (xs ++ x ∷ [], rest)) closed

pub declarations_closed : (m n : ℕ) (xs : List Declaration) (tokens rest : List Token) → n < m → behind t.CloseBrace tokens ≡ Some rest → declared_by (m - n) xs tokens ≡ Some (xs, rest)
unfolding declared_by
declarations_closed m n xs tokens rest more is =
    let count : m - n ≡ suc (m - (n + 1)) = omega arith in
    rw (count, declared_by) (ap (λ o. elim o [ Some rest ↦ Some (xs, rest) | None ↦ declaration_at tokens >>= λ declaration. declared_by (m - (n + 1)) (xs ++ declaration.0 ∷ []) declaration.1 ]) is)

pub declarations_fail : (m n : ℕ) (xs : List Declaration) (tokens : List Token) → n < m → behind t.CloseBrace tokens ≡ None → declaration_at tokens ≡ None → declared_by (m - n) xs tokens ≡ None
unfolding declared_by
declarations_fail m n xs tokens more is read =
    let count : m - n ≡ suc (m - (n + 1)) = omega arith in
    rw (count, declared_by) (ap (λ o. elim o [ Some rest ↦ Some (xs, rest) | None ↦ declaration_at tokens >>= λ declaration. declared_by (m - (n + 1)) (xs ++ declaration.0 ∷ []) declaration.1 ]) is ∙ ap (λ o. o >>= λ declaration. declared_by (m - (n + 1)) (xs ++ declaration.0 ∷ []) declaration.1) read)

pub declarations_step : (m n : ℕ) (xs : List Declaration) (x : Declaration) (tokens rest : List Token) → n < m → behind t.CloseBrace tokens ≡ None → declaration_at tokens ≡ Some (x, rest)
    → declared_by (m - n) xs tokens ≡ declared_by (m - (n + 1)) (xs ++ x ∷ []) rest
unfolding declared_by
declarations_step m n xs x tokens rest more is read =
    let count : m - n ≡ suc (m - (n + 1)) = omega arith in
    rw (count, declared_by) (ap (λ o. elim o [ Some rest ↦ Some (xs, rest) | None ↦ declaration_at tokens >>= λ declaration. declared_by (m - (n + 1)) (xs ++ declaration.0 ∷ []) declaration.1 ]) is ∙ ap (λ o. o >>= λ declaration. declared_by (m - (n + 1)) (xs ++ declaration.0 ∷ []) declaration.1) read)

pub items_closed : (m n : ℕ) (xs : List Item) (tokens rest : List Token) → n < m → behind t.CloseBrace tokens ≡ Some rest → items_by (m - n) xs tokens ≡ Some (xs, rest)
unfolding items_by
items_closed m n xs tokens rest more is =
    let count : m - n ≡ suc (m - (n + 1)) = omega arith in
    rw (count, items_by) (ap (λ o. elim o [ Some rest ↦ Some (xs, rest) | None ↦ item_at tokens >>= λ item. items_by (m - (n + 1)) (xs ++ item.0 ∷ []) item.1 ]) is)

pub items_fail : (m n : ℕ) (xs : List Item) (tokens : List Token) → n < m → behind t.CloseBrace tokens ≡ None → item_at tokens ≡ None → items_by (m - n) xs tokens ≡ None
unfolding items_by
items_fail m n xs tokens more is read =
    let count : m - n ≡ suc (m - (n + 1)) = omega arith in
    rw (count, items_by) (ap (λ o. elim o [ Some rest ↦ Some (xs, rest) | None ↦ item_at tokens >>= λ item. items_by (m - (n + 1)) (xs ++ item.0 ∷ []) item.1 ]) is ∙ ap (λ o. o >>= λ item. items_by (m - (n + 1)) (xs ++ item.0 ∷ []) item.1) read)

pub items_step : (m n : ℕ) (xs : List Item) (x : Item) (tokens rest : List Token) → n < m → behind t.CloseBrace tokens ≡ None → item_at tokens ≡ Some (x, rest)
    → items_by (m - n) xs tokens ≡ items_by (m - (n + 1)) (xs ++ x ∷ []) rest
unfolding items_by
items_step m n xs x tokens rest more is read =
    let count : m - n ≡ suc (m - (n + 1)) = omega arith in
    rw (count, items_by) (ap (λ o. elim o [ Some rest ↦ Some (xs, rest) | None ↦ item_at tokens >>= λ item. items_by (m - (n + 1)) (xs ++ item.0 ∷ []) item.1 ]) is ∙ ap (λ o. o >>= λ item. items_by (m - (n + 1)) (xs ++ item.0 ∷ []) item.1) read)

pub clients_step : (m n : ℕ) (block : List Token → Reads (List Statement)) (xs : List Client) (x : Client) (tokens after rest : List Token) → n < m → behind t.Client tokens ≡ Some after → client_by block after ≡ Some (x, rest)
    → clients_by (m - n) block xs tokens ≡ clients_by (m - (n + 1)) block (xs ++ x ∷ []) rest
unfolding clients_by
clients_step m n block xs x tokens after rest more is read =
    let count : m - n ≡ suc (m - (n + 1)) = omega arith in
    rw (count, clients_by) (ap (λ o. elim o [ None ↦ Some (xs, tokens) | Some ts ↦ client_by block ts >>= λ client. clients_by (m - (n + 1)) block (xs ++ client.0 ∷ []) client.1 ]) is ∙ ap (λ o. o >>= λ client. clients_by (m - (n + 1)) block (xs ++ client.0 ∷ []) client.1) read)

pub clients_fail : (m n : ℕ) (block : List Token → Reads (List Statement)) (xs : List Client) (tokens after : List Token) → n < m → behind t.Client tokens ≡ Some after → client_by block after ≡ None → clients_by (m - n) block xs tokens ≡ None
unfolding clients_by
clients_fail m n block xs tokens after more is read =
    let count : m - n ≡ suc (m - (n + 1)) = omega arith in
    rw (count, clients_by) (ap (λ o. elim o [ None ↦ Some (xs, tokens) | Some ts ↦ client_by block ts >>= λ client. clients_by (m - (n + 1)) block (xs ++ client.0 ∷ []) client.1 ]) is ∙ ap (λ o. o >>= λ client. clients_by (m - (n + 1)) block (xs ++ client.0 ∷ []) client.1) read)

pub clients_end : (k : ℕ) (block : List Token → Reads (List Statement)) (xs : List Client) (tokens : List Token) → behind t.Client tokens ≡ None → clients_by k block xs tokens ≡ Some (xs, tokens)
unfolding clients_by
clients_end zero block xs tokens is = refl
clients_end (suc k) block xs tokens is = ap (λ o. elim o [ None ↦ Some (xs, tokens) | Some ts ↦ client_by block ts >>= λ client. clients_by k block (xs ++ client.0 ∷ []) client.1 ]) is

pub ruleset keys = (key_list_step, key_list_end)

pub ruleset listed = (property_list_step, property_list_end, property_list_closed, property_list_fails)

pub ruleset declared = (declarations_step, declarations_closed, declarations_fail)

pub ruleset items = (items_step, items_closed, items_fail)

pub ruleset clients = (clients_step, clients_end, clients_fail)
