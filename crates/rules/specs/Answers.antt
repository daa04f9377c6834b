-- What calls are answered across C, made of what they end with.
use Rattle.std.specs.Prelude.{ℕ, ℤ, pos, Option, Some, None, Result, Ok, Err}
use Rattle.rules.specs.declared.Card.{Card}
use Rattle.rules.specs.declared.Heard.{Heard}
use Rattle.rules.specs.declared.Wrote.{Wrote}
use Rattle.rules.specs.declared.Staff.{Staff}
use Rattle.rules.specs.declared.Raster.{Raster}
use Rattle.rules.specs.declared.answers.Survey.{Survey}
use Rattle.rules.specs.declared.refusals.Refusal.{Refusal}
use Rattle.rules.specs.Refusals.{refusal_number}
use Rattle.rules.specs.Sheet.{no_card}

-- of the sheet reader
abbrev pub heard_of : Result Card Refusal → Heard
heard_of (Ok card) = record { number = 0; card = card }
heard_of (Err refusal) = record { number = refusal_number refusal; card = no_card }

-- of both writers
abbrev pub wrote_of : Result ℕ Refusal → Wrote
wrote_of (Ok size) = record { number = 0; size = size }
wrote_of (Err refusal) = record { number = refusal_number refusal; size = 0 }

-- of a staff reading, which may be none
abbrev pub staff_of : Result (Option ℤ) Refusal → Staff
staff_of (Ok (Some height)) = record { number = 0; read = 1; height = height }
staff_of (Ok None) = record { number = 0; read = 0; height = pos 0 }
staff_of (Err refusal) = record { number = refusal_number refusal; read = 0; height = pos 0 }

-- of the raster reader
abbrev pub raster_of : Result Survey Refusal → Raster
raster_of (Ok survey) = record { number = 0; columns = survey.columns; rows = survey.rows; side = survey.side }
raster_of (Err refusal) = record { number = refusal_number refusal; columns = 0; rows = 0; side = 0 }
