-- The labels of each mode, in the order of their bytes. Modes 0 and 1: label, kind and width as on document 01's page ("One
-- group"); `stamped` is its *, and `space_stamped` are those of them whose season is a space. Mode 2: the labels of document
-- 003, Tableau 10, with the formats of 2.9.3.
use Rattle.std.specs.Prelude.{Bool, true, false, ◌&&◌, List, [], ◌∷◌, ◌++◌, ℕ, eqb}
use Rattle.std.proofs.Math.Option.{Option, none, some}
use Prim.Native.Char.{code}
use Prim.Native.String.{String, [] as end, ◌∷◌ as ◌then◌}
use Rattle.characters.specs.Answers.{pick}
use Rattle.groups.specs.Formats.{Field, run, text, comma_or_point, Rule, by_formats}
use Rattle.groups.specs.declared.Mode.{Mode}
use Rattle.groups.specs.declared.Mode.TheVariants.{Historic, Standard, Business}
use Rattle.groups.specs.declared.table.Kind.{Kind}
use Rattle.groups.specs.declared.table.Kind.TheVariants.{Digits as N, Hex as X, Text as T}
use Rattle.groups.specs.declared.table.Mark.{Mark}
use Rattle.groups.specs.declared.table.Mark.TheVariants.{Unstamped, Letter, Space}

-- a label, and what it asks of stamp and data
pub record Entry : Type 0 where
  pub label : List ℕ
  pub rule : Rule

-- the character codes of a text
abbrev pub codes : String → List ℕ
codes end = []
codes (c then s) = code c ∷ codes s

abbrev entry : Mark → String → List (List Field) → Entry
entry mark label formats = record { label = codes label; rule = by_formats mark formats }

-- ---- Modes 0 and 1

-- data of one kind and one width: one format, of one field
abbrev pub plain : Kind → ℕ → List (List Field)
plain kind width = (run kind width width ∷ []) ∷ []

abbrev unstamped : String → Kind → ℕ → Entry
unstamped label kind width = entry Unstamped label (plain kind width)

abbrev stamped : String → Kind → ℕ → Entry
stamped label kind width = entry Letter label (plain kind width)

abbrev space_stamped : String → Kind → ℕ → Entry
space_stamped label kind width = entry Space label (plain kind width)

unfoldable pub historic_rows : List Entry
historic_rows =
    unstamped "ADCO" T 12 ∷
    unstamped "ADIR1" N 3 ∷
    unstamped "ADIR2" N 3 ∷
    unstamped "ADIR3" N 3 ∷
    unstamped "ADPS" N 3 ∷
    unstamped "BASE" N 9 ∷
    unstamped "BBRHCJB" N 9 ∷
    unstamped "BBRHCJR" N 9 ∷
    unstamped "BBRHCJW" N 9 ∷
    unstamped "BBRHPJB" N 9 ∷
    unstamped "BBRHPJR" N 9 ∷
    unstamped "BBRHPJW" N 9 ∷
    unstamped "DEMAIN" T 4 ∷
    unstamped "EJPHN" N 9 ∷
    unstamped "EJPHPM" N 9 ∷
    unstamped "HCHC" N 9 ∷
    unstamped "HCHP" N 9 ∷
    unstamped "HHPHC" T 1 ∷
    unstamped "IINST" N 3 ∷
    unstamped "IINST1" N 3 ∷
    unstamped "IINST2" N 3 ∷
    unstamped "IINST3" N 3 ∷
    unstamped "IMAX" N 3 ∷
    unstamped "IMAX1" N 3 ∷
    unstamped "IMAX2" N 3 ∷
    unstamped "IMAX3" N 3 ∷
    unstamped "ISOUSC" N 2 ∷
    unstamped "MOTDETAT" T 6 ∷
    unstamped "OPTARIF" T 4 ∷
    unstamped "PAPP" N 5 ∷
    unstamped "PEJP" N 2 ∷
    unstamped "PMAX" N 5 ∷
    unstamped "PPOT" T 2 ∷
    unstamped "PTEC" T 4 ∷
    []

unfoldable pub standard_rows : List Entry
standard_rows =
    unstamped "ADSC" T 12 ∷
    stamped "CCAIN" N 5 ∷
    stamped "CCAIN-1" N 5 ∷
    stamped "CCASN" N 5 ∷
    stamped "CCASN-1" N 5 ∷
    stamped "DATE" T 0 ∷
    space_stamped "DPM1" N 2 ∷
    space_stamped "DPM2" N 2 ∷
    space_stamped "DPM3" N 2 ∷
    unstamped "EAIT" N 9 ∷
    unstamped "EASD01" N 9 ∷
    unstamped "EASD02" N 9 ∷
    unstamped "EASD03" N 9 ∷
    unstamped "EASD04" N 9 ∷
    unstamped "EASF01" N 9 ∷
    unstamped "EASF02" N 9 ∷
    unstamped "EASF03" N 9 ∷
    unstamped "EASF04" N 9 ∷
    unstamped "EASF05" N 9 ∷
    unstamped "EASF06" N 9 ∷
    unstamped "EASF07" N 9 ∷
    unstamped "EASF08" N 9 ∷
    unstamped "EASF09" N 9 ∷
    unstamped "EASF10" N 9 ∷
    unstamped "EAST" N 9 ∷
    unstamped "ERQ1" N 9 ∷
    unstamped "ERQ2" N 9 ∷
    unstamped "ERQ3" N 9 ∷
    unstamped "ERQ4" N 9 ∷
    space_stamped "FPM1" N 2 ∷
    space_stamped "FPM2" N 2 ∷
    space_stamped "FPM3" N 2 ∷
    unstamped "IRMS1" N 3 ∷
    unstamped "IRMS2" N 3 ∷
    unstamped "IRMS3" N 3 ∷
    unstamped "LTARF" T 16 ∷
    unstamped "MSG1" T 32 ∷
    unstamped "MSG2" T 16 ∷
    unstamped "NGTF" T 16 ∷
    unstamped "NJOURF" N 2 ∷
    unstamped "NJOURF+1" N 2 ∷
    unstamped "NTARF" N 2 ∷
    unstamped "PCOUP" N 2 ∷
    unstamped "PJOURF+1" T 98 ∷
    unstamped "PPOINTE" T 98 ∷
    unstamped "PREF" N 2 ∷
    unstamped "PRM" T 14 ∷
    unstamped "RELAIS" N 3 ∷
    unstamped "SINSTI" N 5 ∷
    unstamped "SINSTS" N 5 ∷
    unstamped "SINSTS1" N 5 ∷
    unstamped "SINSTS2" N 5 ∷
    unstamped "SINSTS3" N 5 ∷
    stamped "SMAXIN" N 5 ∷
    stamped "SMAXIN-1" N 5 ∷
    stamped "SMAXSN" N 5 ∷
    stamped "SMAXSN-1" N 5 ∷
    stamped "SMAXSN1" N 5 ∷
    stamped "SMAXSN1-1" N 5 ∷
    stamped "SMAXSN2" N 5 ∷
    stamped "SMAXSN2-1" N 5 ∷
    stamped "SMAXSN3" N 5 ∷
    stamped "SMAXSN3-1" N 5 ∷
    unstamped "STGE" X 8 ∷
    stamped "UMOY1" N 3 ∷
    stamped "UMOY2" N 3 ∷
    stamped "UMOY3" N 3 ∷
    unstamped "URMS1" N 3 ∷
    unstamped "URMS2" N 3 ∷
    unstamped "URMS3" N 3 ∷
    unstamped "VTIC" T 2 ∷
    []

-- ---- Mode 2: the formats of document 003, 2.9.3, under its letters

-- one text, or another
abbrev pub exactly : String → List (List Field)
exactly t = (text (codes t) ∷ []) ∷ []

abbrev pub either : String → String → List (List Field)
either one other = exactly one ++ exactly other

-- (A), (F), (N), (U): a name, "alphanumérique", which may have spaces in it and behind it
abbrev pub name : ℕ → ℕ → List (List Field)
name fewest most = (run T fewest most ∷ []) ∷ []

-- a value of one digit or more, and what stands right behind it
abbrev value : ℕ → String → List Field
value digits unit = run N 1 digits ∷ text (codes unit) ∷ []

abbrev two : Field
two = run N 2 2

-- (B): "JJ/MM/AA HH:MM:SS"
abbrev date_fields : List Field
date_fields =
    two ∷ text (codes "/") ∷ two ∷ text (codes "/") ∷ two ∷ text (codes " ")
    ∷ two ∷ text (codes ":") ∷ two ∷ text (codes ":") ∷ two ∷ []

abbrev pub date : List (List Field)
date = date_fields ∷ []

-- (C): "xxxxxTkW", the T where the value was cut short
abbrev pub average_power : List (List Field)
average_power = value 5 "kW" ∷ value 5 "TkW" ∷ []

-- (D), (L), (M), (P): seven digits at most
abbrev pub energy : String → List (List Field)
energy unit = value 7 unit ∷ []

-- (I), (V): "kW ou kVA"
abbrev pub subscribed_power : List (List Field)
subscribed_power = value 5 "kW" ∷ value 5 "kVA" ∷ []

-- (Q): from -9999,99 to 99999,99, two digits behind a comma or a point. Only a first field varies, so each count of digits
-- behind the minus sign is a format.
abbrev negative : ℕ → List Field
negative digits = text (codes "-") ∷ run N digits digits ∷ comma_or_point ∷ two ∷ []

abbrev pub tangent : List (List Field)
tangent = (run N 1 5 ∷ comma_or_point ∷ two ∷ []) ∷ negative 1 ∷ negative 2 ∷ negative 3 ∷ negative 4 ∷ []

-- (S)
abbrev pub power : List (List Field)
power = value 5 "kW" ∷ []

-- (U): "TD-" and the name of a period; a date, "-" and the name of a period
abbrev pub notice : List (List Field)
notice = (text (codes "TD-") ∷ run T 3 3 ∷ []) ∷ []

abbrev pub dated_name : List (List Field)
dated_name = (date_fields ++ text (codes "-") ∷ run T 3 3 ∷ []) ∷ []

abbrev business : String → List (List Field) → Entry
business = entry Unstamped

unfoldable pub business_rows : List Entry
business_rows =
    business "ADS" (name 12 12) ∷
    business "CONFIG" (either "CONSO" "PROD") ∷
    business "DATE" date ∷
    business "DATEPA1" date ∷
    business "DATEPA2" date ∷
    business "DATEPA3" date ∷
    business "DATEPA4" date ∷
    business "DATEPA5" date ∷
    business "DATEPA6" date ∷
    business "DebP" date ∷
    business "DebP-1" date ∷
    business "DebP-1_2" date ∷
    business "DebP_2" date ∷
    business "EAPP_i" (energy "VAh") ∷
    business "EAPP_s" (energy "VAh") ∷
    business "EAP_i" (energy "kWh") ∷
    business "EAP_s" (energy "kWh") ∷
    business "EA_i" (energy "Wh") ∷
    business "EA_s" (energy "Wh") ∷
    business "ER+P-1_i" (energy "kvarh") ∷
    business "ER+P-1_s" (energy "kvarh") ∷
    business "ER+P_i" (energy "kvarh") ∷
    business "ER+P_s" (energy "kvarh") ∷
    business "ER+_i" (energy "varh") ∷
    business "ER+_s" (energy "varh") ∷
    business "ER-P-1_i" (energy "kvarh") ∷
    business "ER-P-1_s" (energy "kvarh") ∷
    business "ER-P_i" (energy "kvarh") ∷
    business "ER-P_s" (energy "kvarh") ∷
    business "ER-_i" (energy "varh") ∷
    business "ER-_s" (energy "varh") ∷
    business "ETATDYN1" (name 3 3) ∷
    business "ETATDYN2" (name 3 3) ∷
    business "EaP-1_i" (energy "kWh") ∷
    business "EaP-1_s" (energy "kWh") ∷
    business "EaP-1_s2" (energy "kWh") ∷
    business "EaP_s2" (energy "kWh") ∷
    business "FinP-1" date ∷
    business "FinP-1_2" date ∷
    business "MESURES1" (name 10 10) ∷
    business "MESURES2" (name 10 10) ∷
    business "MODE" (exactly "CONTROLE") ∷
    business "PA1MN" power ∷
    business "PA1_i" average_power ∷
    business "PA1_s" average_power ∷
    business "PA2_i" average_power ∷
    business "PA2_s" average_power ∷
    business "PA3_i" average_power ∷
    business "PA3_s" average_power ∷
    business "PA4_i" average_power ∷
    business "PA4_s" average_power ∷
    business "PA5_i" average_power ∷
    business "PA5_s" average_power ∷
    business "PA6_i" average_power ∷
    business "PA6_s" average_power ∷
    business "PMAX_i" subscribed_power ∷
    business "PMAX_s" subscribed_power ∷
    business "PREAVIS" (either "DEP" "DEP ") ∷
    business "PREAVIS1" notice ∷
    business "PREAVIS2" notice ∷
    business "PS" subscribed_power ∷
    business "PTCOUR1" (name 1 3) ∷
    business "PTCOUR2" (name 1 3) ∷
    business "TARIFDYN" (either "ACTIF" "INACTIF") ∷
    business "TDYN1CD" dated_name ∷
    business "TDYN1CF" dated_name ∷
    business "TDYN1FD" dated_name ∷
    business "TDYN1FF" dated_name ∷
    business "TDYN2CD" dated_name ∷
    business "TDYN2CF" dated_name ∷
    business "TDYN2FD" dated_name ∷
    business "TDYN2FF" dated_name ∷
    business "TGPHI_i" tangent ∷
    business "TGPHI_s" tangent ∷
    business "TRAME" (exactly "TEST") ∷
    []

abbrev pub rows : Mode → List Entry
rows Historic = historic_rows
rows Standard = standard_rows
rows Business = business_rows

-- whether two texts are the same
abbrev pub same : List ℕ → List ℕ → Bool
same [] [] = true
same [] (y ∷ ys) = false
same (x ∷ xs) [] = false
same (x ∷ xs) (y ∷ ys) = eqb x y && same xs ys

-- "the rule for each label is read from it": the rule of a label in a list, none where it is not in the list
unfoldable pub lookup : List ℕ → List Entry → Option Rule
lookup label [] = none
lookup label (e ∷ more) = pick (same label e.label) (some e.rule) (lookup label more)
