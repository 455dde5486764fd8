-- The polynomial is the document's, 0x1EDC6F41, with its 32 bits reflected.
-- Assumes nothing.
use mathlib.Core.Path.{◌≡◌, refl}
use Rattle.crc_bits.specs.Crc.{reflected, poly}

poly-is : poly ≡ reflected 32 0x1EDC6F41
poly-is = refl
