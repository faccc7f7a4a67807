pub mod AppendedText
