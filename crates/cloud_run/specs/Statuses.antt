-- The number and the line of a status.
use Rattle.std.specs.Prelude.{◌≡◌, refl, ℕ, List, [], ◌∷◌, ◌++◌, codes, decimal}
use Rattle.std.specs.Fmt.{digits}
use Rattle.cloud_parse.specs.declared.fault.Which.{Which}
use Rattle.cloud_parse.specs.declared.fault.Which.TheVariants as which
use Rattle.cloud_run.specs.declared.status.Status.{Status}
use Rattle.cloud_run.specs.declared.status.Status.TheVariants as status

abbrev pub status_number : Status → ℕ
status_number status.Done = 0
status_number status.Words = 1
status_number status.ReadFault = 2
status_number status.WriteFault = 3
status_number (status.Syntax line column) = 4
status_number (status.Kind rule line) = 5
status_number (status.Limit w) = 6
status_number status.Memory = 7

abbrev pub limit_name : Which → List ℕ
limit_name which.Bytes = codes "Bytes"
limit_name which.Brackets = codes "Brackets"
limit_name which.Number = codes "Number"
limit_name which.Text = codes "Text"
limit_name which.Height = codes "Height"
limit_name which.Names = codes "Names"
limit_name which.Clients = codes "Clients"
limit_name which.Steps = codes "Steps"

abbrev pub status_line : Status → List ℕ
status_line status.Done = []
status_line status.Words = codes "words"
status_line status.ReadFault = codes "read fault"
status_line status.WriteFault = codes "write fault"
status_line (status.Syntax line column) = codes "syntax " ++ decimal line ++ codes " " ++ decimal column
status_line (status.Kind rule line) = codes "kind " ++ decimal rule ++ codes " " ++ decimal line
status_line (status.Limit w) = codes "limit " ++ limit_name w
status_line status.Memory = codes "memory"

-- a text that breaks a limit says which
pub example_limit : (status_number (status.Limit which.Steps) ≡ 6) × (status_line (status.Limit which.Steps) ≡ codes "limit Steps") × (status_line (status.Limit which.Bytes) ≡ codes "limit Bytes")
example_limit = (refl, refl, refl)

-- a text that no program has says where
pub example_syntax : (status_number (status.Syntax 3 8) ≡ 4) × (status_line (status.Syntax 3 18) ≡ codes "syntax 3 18")
unfolding digits
example_syntax = (refl, refl)

-- a source that breaks a rule of kinds says which, and in which line
pub example_kind : (status_number (status.Kind 7 12) ≡ 5) × (status_line (status.Kind 10 2) ≡ codes "kind 10 2")
unfolding digits
example_kind = (refl, refl)

-- a command that did all says nothing
pub example_done : (status_number status.Done ≡ 0) × (status_line status.Done ≡ [])
example_done = (refl, refl)

-- a fault of the source and one of the sink differ in number and line; the first line is given byte by byte
pub example_faults : (status_number status.ReadFault ≡ 2) × (status_line status.ReadFault ≡ 114 ∷ 101 ∷ 97 ∷ 100 ∷ 32 ∷ 102 ∷ 97 ∷ 117 ∷ 108 ∷ 116 ∷ []) × (status_number status.WriteFault ≡ 3) × (status_line status.WriteFault ≡ codes "write fault")
example_faults = (refl, refl, refl, refl)
