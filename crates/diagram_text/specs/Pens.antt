-- Where a pen is in a drawing.
use Rattle.std.specs.Prelude.{◌≡◌, refl, [], ◌∷◌, slice_index_or}
use Rattle.record_diagram.specs.Steps.{Drawing}
use Rattle.diagram_text.specs.declared.pen.Pen.{Pen}

abbrev pub drawing_of : Pen → Drawing
drawing_of pen = record { next = pen.next; standing = λ c. slice_index_or pen.standing c 0; received = λ c. slice_index_or pen.received c 0 }

module _ where
  abbrev pen : Pen
  pen = record { next = 4; standing = 1 ∷ 3 ∷ []; received = 0 ∷ 2 ∷ [] }

  -- client 1 stands on revision 3 and received revision 2; of a client that isn't there nothing is drawn
  pub example_drawing : ((drawing_of pen).standing 1 ≡ 3) × ((drawing_of pen).received 1 ≡ 2) × ((drawing_of pen).standing 7 ≡ 0)
  example_drawing = (refl, refl, refl)
