mod SizeLaws
mod Looking
mod SourceLists
mod FieldLookup
