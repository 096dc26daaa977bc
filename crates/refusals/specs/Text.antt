-- What is printed of a refusal: its layer, number and place in decimal.
use Rattle.std.specs.Prelude.{ℕ, List, ◌++◌, codes, decimal}
use Rattle.refusals.specs.declared.Refusal.{Refusal}
use Rattle.refusals.specs.Numbers.{layer_number, reason_layer, reason_number}

-- the text of a refusal
abbrev pub refusal_text : Refusal → List ℕ
refusal_text r =
    codes "layer " ++ (decimal (layer_number (reason_layer r.reason))
    ++ (codes ", number " ++ (decimal (reason_number r.reason) ++ (codes ", place " ++ decimal r.place))))
