-- Document 01, "Form and forms control". Every definition here is of that section.
use Rattle.std.specs.Prelude.{ℕ, ◌+◌, ◌-◌, ◌/◌, ◌%◌, Bool, cond, not, ◌&&◌, ◌||◌, List, [], ◌∷◌, ◌++◌, map, length, get_or, take, eqb, leb, ltb}
use Rattle.std.specs.Prelude.{Ok, Err}
use Rattle.numbers.specs.Numbers.{Checked}
use Rattle.seq.specs.Words.{any, all, when, first_or, every, listed, total, zeros, padded, zero_from}
use Rattle.numbers.specs.declared.Cause.TheVariants.{FcbChannel, FcbSpacing, FcbSum, FcbEdge}
use Rattle.form.specs.declared.Layout.{Layout}
use Rattle.form.specs.declared.Forms.{Forms}

-- The form lengths in 24ths of an inch, which are our units: common-use, then ISO.
unfoldable pub form_lengths : List ℕ
form_lengths = 84 ∷ 132 ∷ 168 ∷ 204 ∷ 264 ∷ 72 ∷ 96 ∷ 144 ∷ 192 ∷ 240 ∷ 288 ∷ []

-- The pitches of a module; 0 is absent.
unfoldable pub pitches_listed : List ℕ
pitches_listed = 0 ∷ 10 ∷ 12 ∷ 15 ∷ []

-- Every module has a listed pitch, and module 0 is not absent.
unfoldable pub pitches_ok : List ℕ → Bool
pitches_ok ps = all (listed pitches_listed) ps && not (eqb (get_or ps 0 0) 0)

-- A form length and pitches that Start takes, and that a printer can have.
unfoldable pub form_ok : ℕ → List ℕ → Bool
form_ok len ps = every (listed form_lengths len ∷ pitches_ok ps ∷ [])

-- An FCB byte stands for a line: spacing in its upper half, channel in its lower, 0 if it has none.
abbrev pub upper : ℕ → ℕ
upper b = b / 16

abbrev pub channel : ℕ → ℕ
channel b = b % 16

-- 6, 8 or 12 lines per inch are 4, 3 or 2 units a line; an upper half that means none of these gets 0.
unfoldable pub units_of : ℕ → ℕ
units_of u = cond (eqb u 0) 4 (cond (eqb u 1) 3 (cond (eqb u 3) 2 0))

-- The units of the widest and of the narrowest line.
abbrev pub most_units : ℕ
most_units = 4

abbrev pub least_units : ℕ
least_units = 2

abbrev pub units : ℕ → ℕ
units b = units_of (upper b)

abbrev pub half_inch : ℕ
half_inch = 12

-- The runs of equal spacing, taken from change to change, each as its units. The run that is open has the upper half u and n units so far.
unfoldable pub runs_from : ℕ → ℕ → List ℕ → List ℕ
runs_from u n [] = n ∷ []
runs_from u n (b ∷ bs) =
    let same = runs_from u (n + units b) bs in
    let change = n ∷ runs_from (upper b) (units b) bs in
    cond (eqb (upper b) u) same change

unfoldable pub runs : List ℕ → List ℕ
runs [] = []
runs (b ∷ bs) = runs_from (upper b) (units b) bs

unfoldable pub units_total : List ℕ → ℕ
units_total f = total (map units f)

-- Whether a line lies between the first and the last half inch of a form of `len` units; `off` is where it starts. That is
-- enough, since after checks 2 and 3 no line crosses the border of either (`no-straddle`, proofs/Border).
abbrev pub between : ℕ → ℕ → Bool
between len off = leb half_inch off && ltb off (len - half_inch)

-- The bytes of the lines that start where `t` says; the first of them starts `off` units down.
unfoldable pub lines_where : (ℕ → Bool) → ℕ → List ℕ → List ℕ
lines_where t off [] = []
lines_where t off (b ∷ bs) = let rest = lines_where t (off + units b) bs in cond (t off) (b ∷ rest) rest

-- The printable lines, numbered from 1, P in all; and those in the first and last half inch.
unfoldable pub printable : ℕ → List ℕ → List ℕ
printable len f = lines_where (between len) 0 f

unfoldable pub edges : ℕ → List ℕ → List ℕ
edges len f = lines_where (λ off. not (between len off)) 0 f

-- The checks of the paper's list of four, by name.
abbrev pub last_channel : ℕ
last_channel = 12

abbrev pub high_channel : ℕ → Bool
high_channel b = ltb last_channel (channel b)

abbrev pub bad_channel : List ℕ → Bool
bad_channel f = any high_channel f

abbrev pub other_upper : List ℕ → Bool
other_upper f = any (λ b. eqb (units b) 0) f

-- (house: a run is taken from change to change)
abbrev pub odd_run : List ℕ → Bool
odd_run f = any (λ n. not (eqb (n % half_inch) 0)) (runs f)

abbrev pub has_channel : ℕ → Bool
has_channel b = not (eqb (channel b) 0)

abbrev pub edge_channel : ℕ → List ℕ → Bool
edge_channel len f = any has_channel (edges len f)

-- All that the checks ask, each by its definition; and where the printable lines begin, with their number.
unfoldable pub layout_of : ℕ → List ℕ → Layout
layout_of len f =
    record {
      channel = bad_channel f;
      spacing = other_upper f || odd_run f;
      units = units_total f;
      edge = edge_channel len f;
      top = length (lines_where (λ off. ltb off half_inch) 0 f);
      lines = length (printable len f);
    }

-- All four, in the order of the list.
unfoldable pub layout_check : ℕ → Layout → Checked
layout_check len w =
    first_or (Ok tt)
    (when w.channel (Err FcbChannel)
    ∷ when w.spacing (Err FcbSpacing)
    ∷ when (not (eqb w.units len)) (Err FcbSum)
    ∷ when w.edge (Err FcbEdge)
    ∷ [])

unfoldable pub fcb_check : ℕ → List ℕ → Checked
fcb_check len f = layout_check len (layout_of len f)

-- The channel of a printable line, numbered from 1; ls are the bytes of the printable lines.
unfoldable pub channel_at : List ℕ → ℕ → ℕ
channel_at ls line = channel (get_or ls (line - 1) 0)

-- The starting FCB: 6 lines per inch throughout, channel 1 at line 1, before which three lines lie in the first half inch.
unfoldable pub start_fcb : ℕ → List ℕ
start_fcb len = zeros 3 ++ 1 ∷ zeros (len / 4 - 4)

-- Forms control as the printer keeps it: a record of at most so many bytes, and 00 after it.
abbrev pub fcb_size : ℕ
fcb_size = 144

unfoldable pub forms_of : List ℕ → Forms
forms_of r = record { fcb = padded fcb_size r; count = length r }

abbrev pub fcb_now : Forms → List ℕ
fcb_now f = take f.count f.fcb

-- a count within the array, and 00 after it
unfoldable pub forms_in_range : Forms → Bool
forms_in_range f = every (leb f.count fcb_size ∷ zero_from f.count f.fcb ∷ [])
