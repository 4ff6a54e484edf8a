-- The lists as their pages have them. Modes 0 and 1: document 01, in its order, a kind and a width for several labels, a *
-- behind a label that is stamped. Mode 2: document 003, Tableau 10, in its order, with the lengths and forms of 2.9.3 drawn
-- as they are printed. `Promises.antt` says that the table has these labels with these rules, and no others.
use Rattle.std.specs.Prelude.{Bool, false, ◌||◌, List, [], ◌∷◌, ◌++◌, ℕ, eqb, length, replicate}
use Prim.Native.String.{String}
use Rattle.characters.specs.Answers.{pick}
use Rattle.groups.specs.Forms.{Form, picture_of}
use Rattle.groups.specs.Formats.{forms}
use Rattle.groups.specs.Table.{Entry, codes, same}
use Rattle.groups.specs.declared.Mode.{Mode}
use Rattle.groups.specs.declared.Mode.TheVariants.{Historic, Standard, Business}
use Rattle.groups.specs.declared.table.Kind.{Kind}
use Rattle.groups.specs.declared.table.Kind.TheVariants.{Digits as N, Hex as X, Text as T}
use Rattle.groups.specs.declared.table.Mark.{Mark}
use Rattle.groups.specs.declared.table.Mark.TheVariants.{Unstamped, Letter, Space}

-- a label on a page: its stamp, the smallest and the largest length of its data, and the forms of these
pub record OnPage : Type 0 where
  pub label : List ℕ
  pub mark : Mark
  pub smallest : ℕ
  pub largest : ℕ
  pub drawn : List Form

-- a row of the table as a page would have it
abbrev pub as_on_page : Entry → OnPage
as_on_page e =
    record {
      label = e.label;
      mark = e.rule.mark;
      smallest = e.rule.smallest;
      largest = e.rule.largest;
      drawn = forms e.rule.formats;
    }

-- a text parted at its spaces
abbrev pub onto : ℕ → List (List ℕ) → List (List ℕ)
onto c [] = (c ∷ []) ∷ []
onto c (word ∷ more) = (c ∷ word) ∷ more

abbrev pub words : List ℕ → List (List ℕ)
words [] = [] ∷ []
words (c ∷ text) = pick (eqb c 0x20) ([] ∷ words text) (onto c (words text))

-- a label without its *, which is 0x2A
abbrev pub bare : List ℕ → List ℕ
bare [] = []
bare (c ∷ text) = pick (eqb c 0x2A) (bare text) (c ∷ bare text)

-- whether a word is one of these
abbrev pub is_among : List (List ℕ) → List ℕ → Bool
is_among [] word = false
is_among (w ∷ more) word = same word w || is_among more word

-- "Marked * is stamped"; "for DPM1 to DPM3 and FPM1 to FPM3 it is SP and nothing else"
abbrev pub mark_of : List ℕ → Mark
mark_of word =
    pick (same word (bare word)) Unstamped
    (pick (is_among (words (codes "DPM1 DPM2 DPM3 FPM1 FPM2 FPM3")) (bare word)) Space Letter)

abbrev pub each : (List ℕ → OnPage) → List (List ℕ) → List OnPage
each f [] = []
each f (word ∷ more) = f word ∷ each f more

-- a kind and a width: so many times the picture's character of the kind
abbrev pub of_width : Kind → ℕ → List ℕ → OnPage
of_width kind width word =
    record {
      label = bare word;
      mark = mark_of word;
      smallest = width;
      largest = width;
      drawn = record { least = width; picture = replicate width (picture_of kind) } ∷ [];
    }

abbrev pub labels : String → Kind → ℕ → List OnPage
labels text kind width = each (of_width kind width) (words (codes text))

-- "No row of mode 2 is stamped"; from the smallest length to the largest
abbrev pub drawn_as : ℕ → ℕ → List Form → List ℕ → OnPage
drawn_as smallest largest drawn word =
    record { label = word; mark = Unstamped; smallest = smallest; largest = largest; drawn = drawn }

abbrev pub business : String → ℕ → ℕ → List Form → List OnPage
business text smallest largest drawn = each (drawn_as smallest largest drawn) (words (codes text))

-- data of so many characters at least, as the picture has them; and data of the picture's own length alone
abbrev pub at_least : ℕ → String → Form
at_least least picture = record { least = least; picture = codes picture }

abbrev pub whole : String → Form
whole picture = record { least = length (codes picture); picture = codes picture }

-- "Standard mode, 71 labels", "Historic mode, 34 labels"; of Tableau 10's lines, 61 are sent by every meter and 14 by the
-- "palier 2013" alone
unfoldable pub count_on_page : Mode → ℕ
count_on_page Standard = 71
count_on_page Historic = 34
count_on_page Business = 75

unfoldable pub page : Mode → List OnPage
page Standard =
    labels "ADSC" T 12
    ++ labels "VTIC" T 2
    ++ labels "DATE*" T 0
    ++ labels "NGTF LTARF" T 16
    ++ labels "EAST EAIT" N 9
    ++ labels "EASF01 EASF02 EASF03 EASF04 EASF05 EASF06 EASF07 EASF08 EASF09 EASF10" N 9
    ++ labels "EASD01 EASD02 EASD03 EASD04 ERQ1 ERQ2 ERQ3 ERQ4" N 9
    ++ labels "IRMS1 IRMS2 IRMS3 URMS1 URMS2 URMS3" N 3
    ++ labels "PREF PCOUP" N 2
    ++ labels "SINSTS SINSTS1 SINSTS2 SINSTS3 SINSTI" N 5
    ++ labels "SMAXSN* SMAXSN1* SMAXSN2* SMAXSN3* SMAXSN-1* SMAXSN1-1* SMAXSN2-1* SMAXSN3-1* SMAXIN* SMAXIN-1*" N 5
    ++ labels "CCASN* CCASN-1* CCAIN* CCAIN-1*" N 5
    ++ labels "UMOY1* UMOY2* UMOY3*" N 3
    ++ labels "STGE" X 8
    ++ labels "DPM1* DPM2* DPM3* FPM1* FPM2* FPM3*" N 2
    ++ labels "MSG1" T 32
    ++ labels "MSG2" T 16
    ++ labels "PRM" T 14
    ++ labels "RELAIS" N 3
    ++ labels "NTARF NJOURF NJOURF+1" N 2
    ++ labels "PJOURF+1 PPOINTE" T 98
page Historic =
    labels "ADCO" T 12
    ++ labels "OPTARIF PTEC DEMAIN" T 4
    ++ labels "ISOUSC PEJP" N 2
    ++ labels "BASE HCHC HCHP EJPHN EJPHPM BBRHCJB BBRHPJB BBRHCJW BBRHPJW BBRHCJR BBRHPJR" N 9
    ++ labels "IINST IINST1 IINST2 IINST3 ADPS ADIR1 ADIR2 ADIR3 IMAX IMAX1 IMAX2 IMAX3" N 3
    ++ labels "PAPP PMAX" N 5
    ++ labels "HHPHC" T 1
    ++ labels "MOTDETAT" T 6
    ++ labels "PPOT" T 2
page Business =
    business "TRAME" 4 4 (whole "TEST" ∷ [])
    ++ business "ADS" 12 12 (whole "************" ∷ [])
    ++ business "MESURES1" 10 10 (whole "**********" ∷ [])
    ++ business "DATE" 17 17 (whole "99/99/99 99:99:99" ∷ [])
    ++ business "EA_s" 3 9 (at_least 3 "9999999Wh" ∷ [])
    ++ business "ER+_s ER-_s" 5 11 (at_least 5 "9999999varh" ∷ [])
    ++ business "EAPP_s" 4 10 (at_least 4 "9999999VAh" ∷ [])
    ++ business "EA_i" 3 9 (at_least 3 "9999999Wh" ∷ [])
    ++ business "ER+_i ER-_i" 5 11 (at_least 5 "9999999varh" ∷ [])
    ++ business "EAPP_i" 4 10 (at_least 4 "9999999VAh" ∷ [])
    ++ business "PTCOUR1" 1 3 (at_least 1 "***" ∷ [])
    ++ business "TARIFDYN" 5 7 (whole "ACTIF" ∷ whole "INACTIF" ∷ [])
    ++ business "ETATDYN1" 3 3 (whole "***" ∷ [])
    ++ business "PREAVIS1" 6 6 (whole "TD-***" ∷ [])
    ++ business "TDYN1CD TDYN1CF TDYN1FD TDYN1FF" 21 21 (whole "99/99/99 99:99:99-***" ∷ [])
    ++ business "MODE" 8 8 (whole "CONTROLE" ∷ [])
    ++ business "CONFIG" 4 5 (whole "CONSO" ∷ whole "PROD" ∷ [])
    ++ business "DATEPA1 DATEPA2 DATEPA3 DATEPA4 DATEPA5 DATEPA6" 17 17 (whole "99/99/99 99:99:99" ∷ [])
    ++ business "PA1_s PA2_s PA3_s PA4_s PA5_s PA6_s" 3 8 (at_least 3 "99999kW" ∷ at_least 4 "99999TkW" ∷ [])
    ++ business "PA1_i PA2_i PA3_i PA4_i PA5_i PA6_i" 3 8 (at_least 3 "99999kW" ∷ at_least 4 "99999TkW" ∷ [])
    ++ business "DebP" 17 17 (whole "99/99/99 99:99:99" ∷ [])
    ++ business "EAP_s EAP_i" 4 10 (at_least 4 "9999999kWh" ∷ [])
    ++ business "ER+P_s ER-P_s ER+P_i ER-P_i" 6 12 (at_least 6 "9999999kvarh" ∷ [])
    ++ business "DebP-1 FinP-1" 17 17 (whole "99/99/99 99:99:99" ∷ [])
    ++ business "EaP-1_s EaP-1_i" 4 10 (at_least 4 "9999999kWh" ∷ [])
    ++ business "ER+P-1_s ER-P-1_s ER+P-1_i ER-P-1_i" 6 12 (at_least 6 "9999999kvarh" ∷ [])
    ++ business "PS" 3 8 (at_least 3 "99999kW" ∷ at_least 4 "99999kVA" ∷ [])
    ++ business "PREAVIS" 3 4 (whole "DEP" ∷ whole "DEP " ∷ [])
    ++ business "PA1MN" 3 7 (at_least 3 "99999kW" ∷ [])
    ++ business "PMAX_s PMAX_i" 3 8 (at_least 3 "99999kW" ∷ at_least 4 "99999kVA" ∷ [])
    ++ business "TGPHI_s TGPHI_i" 4 8 (at_least 4 "99999,99" ∷ whole "-9,99" ∷ whole "-99,99" ∷ whole "-999,99" ∷ whole "-9999,99" ∷ [])
    ++ business "MESURES2" 10 10 (whole "**********" ∷ [])
    ++ business "PTCOUR2" 1 3 (at_least 1 "***" ∷ [])
    ++ business "ETATDYN2" 3 3 (whole "***" ∷ [])
    ++ business "PREAVIS2" 6 6 (whole "TD-***" ∷ [])
    ++ business "TDYN2CD TDYN2CF TDYN2FD TDYN2FF" 21 21 (whole "99/99/99 99:99:99-***" ∷ [])
    ++ business "DebP_2" 17 17 (whole "99/99/99 99:99:99" ∷ [])
    ++ business "EaP_s2" 4 10 (at_least 4 "9999999kWh" ∷ [])
    ++ business "DebP-1_2 FinP-1_2" 17 17 (whole "99/99/99 99:99:99" ∷ [])
    ++ business "EaP-1_s2" 4 10 (at_least 4 "9999999kWh" ∷ [])
