-- Document 01's figures P1 to P12 ("Figures to hold it against"), one table, one statement; and the same for document 02's
-- requests.
use Rattle.std.proofs.Common.{◌≡◌, refl, Bool, true, false, List, [], ◌∷◌, ℕ}
use Prim.Native.String.{String}
use Rattle.characters.specs.Answers.{need, found, pick}
use Rattle.characters.specs.Wire.{is_sound}
use Rattle.characters.proofs.WireLaws.{damaged_stx}
use Rattle.groups.specs.Modes.{mode_of}
use Rattle.groups.specs.Forms.{takes, matches, has_length, fits, some_fits}
use Rattle.groups.specs.Formats.{form_of}
use Rattle.groups.specs.Table.{codes, historic_rows, standard_rows, business_rows, lookup}
use Rattle.groups.specs.Stamps.{days_in, date_right, stamp_as, stamp_right}
use Rattle.groups.specs.Fields.{width_right, kind_right, checked}
use Rattle.groups.specs.Cuts.{cut, ending}
use Rattle.groups.specs.Groups.{check, parts, fields_of, behind_label, read}
use Rattle.groups.specs.Numbers.{number_of}
use Rattle.groups.specs.Judging.{judging}
use Rattle.groups.specs.Conditions.{first_at, label_of, body_of, data_in}
use Rattle.groups.specs.Place.{agreed, reach, furthest, first_wrong, place_for, place_by, place_of, judgement}
use Rattle.groups.specs.declared.table.Mark.TheVariants.{Letter}

-- a mode's number, a content and its answer, or its place; a stamp, right or not; a wire byte, sound or not
pub data Figure : Type 0 where
  group : ℕ → String → ℕ → Figure
  place : ℕ → String → ℕ → Figure
  stamp : String → Bool → Figure
  wire_byte : ℕ → Bool → Figure

-- P1 to P12, in order; P9 names no mode, so it stands for both of document 01's
abbrev pub figures : List Figure
figures =
    group 1 "URMS1\t230\t?" 1 ∷
    group 1 "URMS1\t230\t6" 10 ∷
    group 0 "PAPP 00750 -" 1 ∷
    group 0 "PAPP 00750 M" 10 ∷
    group 0 "IINST 009  " 1 ∷
    group 0 "IINST 002 Y" 1 ∷
    group 1 "SMAXSN\tH081225223518\t01200\t7" 1 ∷
    group 1 "DATE\tH081225223518\t\tH" 1 ∷
    group 0 "" 9 ∷
    group 1 "" 9 ∷
    stamp "H080229000000" true ∷
    stamp "H090229000000" false ∷
    wire_byte 0x02 false ∷
    []

-- what the definitions say of a figure is what document 01 says
abbrev pub Holds : Figure → Type 0
Holds (group number text answer) = number_of (judgement number (codes text)) ≡ answer
Holds (place number text at) = place_of number (codes text) ≡ at
Holds (stamp text right) = stamp_right Letter (codes text) ≡ right
Holds (wire_byte byte sound) = is_sound byte ≡ sound

abbrev pub AllHold : List Figure → Type 0
AllHold [] = Unit {0}
AllHold (f ∷ more) = Holds f × AllHold more

pub figures_hold : AllHold figures
unfolding judging mode_of read behind_label fields_of checked width_right kind_right some_fits fits has_length matches takes form_of lookup check parts stamp_as date_right days_in need found pick cut ending historic_rows standard_rows
figures_hold =
    (refl, (refl, (refl, (refl, (refl, (refl, (refl, (refl, (refl, (refl, (refl, (refl, (damaged_stx, tt)))))))))))))

-- M-100 names no figures; these are contents of mode 2 with the check characters of document 003, 1.5.2: what
-- document 003 prints (2.9.3 (K), (N), (Q), (U), (W)), and what each rule of its own refuses
abbrev pub business_figures : List Figure
business_figures =
    group 2 "TRAME TEST 9" 1 ∷
    group 2 "PREAVIS DEP 3" 1 ∷
    group 2 "PREAVIS DEP  S" 1 ∷
    group 2 "PTCOUR1 P ^" 1 ∷
    group 2 "PTCOUR1 P   ^" 1 ∷
    group 2 "DATE 15/11/26 15:28:14 5" 1 ∷
    group 2 "EA_s 1234567Wh C" 1 ∷
    group 2 "PA1_s 123TkW @" 1 ∷
    group 2 "TGPHI_s -0.25 @" 1 ∷
    group 2 "TDYN1CD 01/12/26 06:00:00-HPH H" 1 ∷
    group 2 "PREAVIS DEP S" 10 ∷
    group 2 "EA 1Wh 6" 11 ∷
    group 2 "ETATDYN1 P Z" 13 ∷
    group 2 "PA1MN 123456kW T" 13 ∷
    group 2 "PA1_s 123456kW K" 14 ∷
    group 2 "TARIFDYN ACTIFX  " 14 ∷
    group 2 "CONFIG prod +" 14 ∷
    group 3 "PREAVIS DEP 3" 19 ∷
    []

pub business_figures_hold : AllHold business_figures
unfolding judging mode_of read behind_label fields_of checked width_right kind_right some_fits fits has_length matches takes form_of lookup check parts stamp_as need found pick cut ending business_rows
business_figures_hold =
    (refl, (refl, (refl, (refl, (refl, (refl, (refl, (refl, (refl, (refl, (refl, (refl, (refl, (refl, (refl, (refl, (refl, (refl, tt))))))))))))))))))

-- M-101 names no figures; these are the table of seasons in document 001, 6.2.1.1, with the two stamps that it works out
-- there, and DPM1, whose season is a space
abbrev pub later_figures : List Figure
later_figures =
    stamp "H081225223518" true ∷
    stamp "E090714074553" true ∷
    stamp "h081225223518" true ∷
    stamp "e090714074553" true ∷
    stamp " 081225223518" false ∷
    group 1 "DATE\th081225223518\t\t(" 1 ∷
    group 1 "DPM1\t 081225223518\t00\t4" 1 ∷
    group 1 "DPM1\th081225223518\t00\t<" 12 ∷
    group 1 "DPM1\te090714074553\t00\t?" 12 ∷
    []

pub later_figures_hold : AllHold later_figures
unfolding judging mode_of read behind_label fields_of checked width_right kind_right some_fits fits has_length matches takes form_of lookup check parts stamp_as date_right days_in need found pick cut ending standard_rows
later_figures_hold = (refl, (refl, (refl, (refl, (refl, (refl, (refl, (refl, (refl, tt)))))))))

-- M-104 names no figures; these are contents whose places were counted by hand. Mode 1: a wrong character, the first of two, a stamp
-- that is missing, one that is empty, the first of two wrong characters behind a stamp. Mode 0: the last character. Mode 2: where one
-- form gets further than another, a length that no form has, the last character of a text, and the third and the last where two texts
-- are told by their length. Then accepted data, 13, 11 and 19, which have none.
abbrev pub places : List Figure
places =
    place 1 "STGE\t003a0001\tZ" 8 ∷
    place 1 "STGE\t0g3a0001\tQ" 6 ∷
    place 1 "SMAXSN\t01200\t?" 7 ∷
    place 1 "DATE\t\tP" 5 ∷
    place 1 "SMAXSN\tH081225223518\t0x20y\tG" 22 ∷
    place 0 "PAPP 0075a ^" 9 ∷
    place 0 "HCHC 01234567x *" 13 ∷
    place 2 "PA1_s 123456kW K" 11 ∷
    place 2 "PS 36kVW $" 7 ∷
    place 2 "TGPHI_s 12-,34 1" 10 ∷
    place 2 "TARIFDYN NACTIF V" 9 ∷
    place 2 "TARIFDYN INACTIV /" 15 ∷
    place 2 "CONFIG PRODU @" 7 ∷
    place 2 "CONFIG CONSU >" 11 ∷
    place 1 "URMS1\t230\t?" 0 ∷
    place 1 "URMS1\t23\tO" 0 ∷
    place 1 "URMS9\t230\tG" 0 ∷
    place 3 "PREAVIS EJP 9" 0 ∷
    []

pub places_hold : AllHold places
unfolding place_of place_by place_for first_wrong furthest reach agreed first_at label_of body_of data_in judging mode_of read behind_label fields_of checked width_right kind_right some_fits fits has_length matches takes form_of lookup check parts stamp_as date_right days_in need found pick cut ending historic_rows standard_rows business_rows
places_hold =
    (refl, (refl, (refl, (refl, (refl, (refl, (refl, (refl, (refl, (refl, (refl, (refl, (refl, (refl, (refl, (refl, (refl, (refl, tt))))))))))))))))))
