-- The number with which each fault of an image is reported.
use Rattle.std.specs.Prelude.{ℕ, Option, Some, None}
use Rattle.row_code.specs.declared.image_fault.ImageFault.{ImageFault}
use Rattle.row_code.specs.declared.image_fault.ImageFault.TheVariants as fault

-- the number of a fault of an image; missing memory is none of the image
abbrev pub image_number : ImageFault → Option ℕ
image_number fault.Short = Some 1
image_number fault.Magic = Some 2
image_number fault.Count = Some 3
image_number (fault.Field place) = Some 4
image_number (fault.Row number) = Some 5
image_number fault.Extra = Some 6
image_number fault.Memory = None
image_number fault.Version = Some 8
