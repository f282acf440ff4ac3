-- What the code carries from byte to byte of an FCB, and what it asks of one to spare the pass. That the first comes to the layout is proved in
-- proofs/LayoutLaws (`joined-start`, `-step`, `-end`), that the second gives it in proofs/Uniform.
use Rattle.std.specs.Prelude.{ℕ, ◌+◌, ◌*◌, ◌/◌, ◌%◌, Bool, false, not, ◌&&◌, ◌||◌, List, length, get_or, eqb, leb, ltb}
use Rattle.seq.specs.Words.{any, bit}
use Rattle.form.specs.declared.fcb.Pass.{Pass}
use Rattle.form.specs.Form.{upper, units, least_units, half_inch, high_channel, has_channel}

-- Before the first byte; its upper half does not matter, since a run that ends at 0 units is not odd.
unfoldable pub start : Pass
start = record { upper = 0; channel = false; other = false; odd = false; units = 0; edge = false; top = 0; lines = 0 }

-- After one more byte. A line is printable if it starts after the first half inch and before `last`. A run is odd where it ends within a
-- half inch of the form: those before it are whole, or an odd one was seen already (`odd-from`, proofs/LayoutLaws).
unfoldable pub step_of : ℕ → Pass → ℕ → Pass
step_of last s b =
    let inside : Bool = leb half_inch s.units && ltb s.units last in
    record {
      upper = upper b;
      channel = s.channel || high_channel b;
      other = s.other || eqb (units b) 0;
      odd = s.odd || (not (eqb (upper b) s.upper) && not (eqb (s.units % half_inch) 0));
      units = s.units + units b;
      edge = s.edge || (not inside && has_channel b);
      top = s.top + bit (ltb s.units half_inch) 1;
      lines = s.lines + bit inside 1;
    }

-- A byte is astray if it has another upper half than u, or a bad channel.
abbrev pub astray : ℕ → ℕ → Bool
astray u b = not (eqb (upper b) u) || high_channel b

-- The most lines of half an inch, and of both edge half inches.
abbrev pub half_inch_most : ℕ
half_inch_most = half_inch / least_units

abbrev pub edge_most : ℕ
edge_most = 2 * half_inch_most

-- The FCB has room for both edge half inches at any spacing, fills the form, and no byte is astray from the first.
unfoldable pub uniform : ℕ → List ℕ → Bool
uniform len f =
    let b = get_or f 0 0 in
    leb edge_most (length f) && (eqb (half_inch * length f) (half_inch / units b * len) && not (any (astray (upper b)) f))
