-- The text of a report: a line for each step of a diagram, and then one for each client.
use Rattle.std.specs.Prelude.{ℕ, suc, Bool, true, false, List, [], ◌∷◌, ◌++◌, slice_index_or, codes, decimal}
use Rattle.cloud_base.specs.declared.end.End.{End}
use Rattle.cloud_base.specs.declared.schema.Schema.{Schema}
use Rattle.revision_diagram.specs.declared.step.Step.{Step}
use Rattle.step_text.specs.Values.{answer_text}
use Rattle.step_text.specs.Cells.{update_text, query_text}

-- the name of a client by number, empty where it has none
abbrev pub client_name : List (List ℕ) → ℕ → List ℕ
client_name names client = slice_index_or names client []

abbrev pub mark_text : Bool → List ℕ
mark_text true = codes "flush"
mark_text false = codes "yield"

-- the line of a step before which `next` is the next free number of a revision
abbrev pub step_line : Schema → List (List ℕ) → ℕ → Step → List ℕ
step_line schema names next (Step.Fork revision client) = codes "fork " ++ decimal revision ++ codes " " ++ decimal next ++ codes " " ++ client_name names client ++ codes "\n"
step_line schema names next (Step.Join revision joined) = codes "join " ++ decimal revision ++ codes " " ++ decimal joined ++ codes "\n"
step_line schema names next (Step.Do revision update) = codes "do " ++ decimal revision ++ codes " " ++ update_text schema update ++ codes "\n"
step_line schema names next (Step.Ask revision query answer) = codes "ask " ++ decimal revision ++ codes " " ++ query_text schema query ++ codes " = " ++ answer_text answer ++ codes "\n"
step_line schema names next (Step.Say revision answer) = codes "say " ++ decimal revision ++ codes " " ++ answer_text answer ++ codes "\n"
step_line schema names next (Step.Mark revision flush) = codes "mark " ++ decimal revision ++ codes " " ++ mark_text flush ++ codes "\n"

-- the next free number after a step: a fork takes one
abbrev pub next_after : ℕ → Step → ℕ
next_after next (Step.Fork revision client) = suc next
next_after next step = next

-- the lines of steps before which `next` is the next free number
abbrev pub steps_text : Schema → List (List ℕ) → ℕ → List Step → List ℕ
steps_text schema names next [] = []
steps_text schema names next (step ∷ steps) = step_line schema names next step ++ steps_text schema names (next_after next step) steps

abbrev pub end_text : End → List ℕ
end_text End.Done = codes "Done"
end_text End.Spent = codes "Spent"
end_text (End.Trap line) = codes "Trap " ++ decimal line

-- the line of a client's end
abbrev pub end_line : List ℕ → End → List ℕ
end_line name end = codes "end " ++ name ++ codes " " ++ end_text end ++ codes "\n"

-- the lines of the ends of the clients from the number `client` on
abbrev pub ends_text : List (List ℕ) → ℕ → List End → List ℕ
ends_text names client [] = []
ends_text names client (end ∷ ends) = end_line (client_name names client) end ++ ends_text names (suc client) ends

-- revision 0 is there at the start, so the first fork makes revision 1
abbrev pub report_text : Schema → List (List ℕ) → List Step → List End → List ℕ
report_text schema names steps ends = steps_text schema names 1 steps ++ ends_text names 0 ends
